-- What is found in a list is one of its items.
use Rattle.std.proofs.Common.{◌≡◌, ◌==◌, ◌⊎◌, inl, inr, ⊎_elim, ℕ, Bool, true, false, cond, List, []}
use Rattle.std.proofs.Common.{◌∷◌, fold, Some, All, Contains, bytes_eq, find, refl, sym, subst}
use Rattle.std.proofs.lemmas.List.Elements.{All-head, All-tail, All-filter, All-contains_itself}
use Rattle.std.specs.List.{reduce}
use Rattle.std.specs.Ordering.{is_lt, nat_cmp, on, ord_max}
use Rattle.std.specs.declared.cmp.Ordering.{Ordering}
use Rattle.reg_entries.specs.Sought.{counting, counts, of_subject}
use Rattle.reg_entries.specs.declared.entry.Entry.{Entry}
use Rattle.reg_fold.specs.Standing.{FoundEntriesStand}
use Rattle.reg_fold.specs.declared.version_ref.VersionRef.TheVariants.{Latest, Number}

inside : {X : Type 0} (a b : X) → Some a ≡ Some b → a ≡ b
inside a b same = cc

module _ {X : Type 0} (P : X → Type 0) where
  module _ (f : X → X → X) (picks : (a b : X) → (f a b ≡ a) ⊎ (f a b ≡ b)) where
    fold_has : (x : X) (xs : List X) → P x → All P xs → P (fold f x xs)
    fold_has x [] p all = p
    fold_has x (y ∷ ys) p all =
        fold_has (f x y) ys (⊎_elim (λ e. subst P (sym e) p) (λ e. subst P (sym e) (All-head P y ys all)) (picks x y)) (All-tail P y ys all)

    reduce_has : (xs : List X) (x : X) → All P xs → reduce f xs ≡ Some x → P x
    reduce_has [] x all is = absurd (cc)
    reduce_has (y ∷ ys) x all is = subst P (inside _ x is) (fold_has y ys (All-head P y ys all) (All-tail P y ys all))

  find_has : (p : X → Bool) (xs : List X) (x : X) → All P xs → find p xs ≡ Some x → P x
  find_has p [] x all is = absurd (cc)
  find_has p (y ∷ ys) x all is =
      elim (p y) as (λ b. cond b (Some y) (find p ys) ≡ Some x → P x) [
        | true ↦ λ same. subst P (inside y x same) (All-head P y ys all)
        | false ↦ λ rest. find_has p ys x (All-tail P y ys all) rest
      ] is

ord_max-picks : {X : Type 0} (cmp : X → X → Ordering) (a b : X) → (ord_max cmp a b ≡ a) ⊎ (ord_max cmp a b ≡ b)
ord_max-picks cmp a b = elim (is_lt (cmp b a)) as (λ c. (cond c a b ≡ a) ⊎ (cond c a b ≡ b)) [ true ↦ inl refl | false ↦ inr refl ]

all_count : (es : List Entry) (subject : List ℕ) (deleted : Bool) → All (Contains es) (counting es subject deleted)
all_count es subject deleted =
    All-filter (counts deleted) (Contains es) (of_subject es subject)
    (All-filter (λ e. bytes_eq e.subject subject) (Contains es) es (All-contains_itself es))

pub found_stand : FoundEntriesStand
found_stand es subject Latest deleted e is =
    reduce_has (Contains es) (ord_max (on (λ e. e.version) nat_cmp)) (ord_max-picks (on (λ e. e.version) nat_cmp))
    (counting es subject deleted) e (all_count es subject deleted) is
found_stand es subject (Number version) deleted e is =
    find_has (Contains es) (λ e. e.version == version) (counting es subject deleted) e (all_count es subject deleted) is
