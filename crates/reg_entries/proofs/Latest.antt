-- The last of a subject's entries that counts, and the one of a version.
use Rattle.std.proofs.Common.{◌≡◌, ◌==◌, ℕ, Bool, true, false, cond, inl, inr, List, [], ◌∷◌, ◌++◌, length}
use Rattle.std.proofs.Common.{map, reverse, Option, Some, None, refl, sym, ap, subst, ◌∙◌, arith}
use Rattle.std.proofs.lemmas.Cmp.{nat_cmp_total, on_total}
use Rattle.std.proofs.lemmas.Iterator.{YieldsList}
use Rattle.std.proofs.lemmas.Iterator.Consumers.{YieldsList-from_shown}
use Rattle.std.proofs.lemmas.List.{map-append, reverse-append}
use Rattle.std.proofs.lemmas.List.Folds.{find-append}
use Rattle.std.proofs.lemmas.List.Kept.{IsStrictlySortedBy-filter}
use Rattle.std.proofs.lemmas.Map.Entries.{option_filter}
use Rattle.std.proofs.lemmas.Option.{same_Some}
use Rattle.std.proofs.lemmas.Slice.Eq.{bytes_eq-Decides}
use Rattle.std.specs.Cmp.{IsTotalOrder}
use Rattle.std.specs.Iterator.Adapters.{rev_source, rev_steps}
use Rattle.std.specs.List.{filter, find, fold, reduce, AllByRecursion}
use Rattle.std.specs.List.Sorted.{IsStrictlySortedBy}
use Rattle.std.specs.Map.{keys_of, values_of}
use Rattle.std.specs.Map.Iter.{TakesLast}
use Rattle.std.specs.Option.{option_or}
use Rattle.std.specs.Ordering.{is_lt, nat_cmp, on, ord_max, ordering_reverse}
use Rattle.std.specs.Prelude.{bytes_eq}
use Rattle.std.specs.declared.cmp.Ordering.TheVariants.{Less}
use Rattle.std.specs.declared.cmp.Ordering.{Ordering}
use Rattle.std.specs.declared.iter.Rev.{Rev}
use Rattle.reg_entries.specs.EntryOrder.{Place, place_cmp, place_of}
use Rattle.reg_entries.specs.Sought.{counts, latest, of_version}
use Rattle.reg_entries.specs.declared.entry.Entry.{Entry}
use Rattle.reg_entries.proofs.Chosen.{IsIn, all_filter, all_map, in_filter}
use Rattle.reg_entries.proofs.Found.{AreFoundAtPlaces, all_at_places, all_found, found_at}
use Rattle.reg_entries.proofs.Found.{found_own, in_values, not_both, rising, values_in_order}
use Rattle.reg_entries.proofs.Listed.{by_bool, never}

pub reverse-more : {X : Type 0} (x : X) (xs : List X) → reverse (x ∷ xs) ≡ reverse xs ++ x ∷ []
reverse-more x xs = reverse-append (x ∷ []) xs

pub map-reverse : {X Y : Type 0} (f : X → Y) (xs : List X) → map f (reverse xs) ≡ reverse (map f xs)
map-reverse f [] = refl
map-reverse f (x ∷ xs) =
    ap (map f) (reverse-more x xs) ∙ map-append f (reverse xs) (x ∷ []) ∙ ap (λ ys. ys ++ f x ∷ []) (map-reverse f xs)
    ∙ sym (reverse-more (f x) (map f xs))

-- what `rev` gives of an iterator of a map or a set
pub YieldsList-from_last : {A X : Type 0} (shows : A → X) {s : Rev (List X)} (xs : List X)
    → rev_source s ≡ xs → YieldsList (rev_steps (TakesLast shows)) shows s (reverse xs)
YieldsList-from_last {A} {X} shows {s} xs is =
    subst (λ ys. YieldsList (rev_steps (TakesLast shows)) shows s (reverse ys)) is
    (YieldsList-from_shown (rev_steps (TakesLast shows)) shows (λ (s : Rev (List X)). reverse (rev_source s))
    (λ s t h. ap (λ ys. length (reverse ys)) h.0) (λ s x t h. ap reverse h ∙ reverse-append (rev_source t) (shows x ∷ [])) s)

module _ {X : Type 0} (cmp : X → X → Ordering) (total : IsTotalOrder cmp) (p : X → Bool) where
  -- an item before all others isn't the greatest, unless there are none
  least_last : (x : X) (ys : List X) → AllByRecursion (λ y. cmp x y ≡ Less) ys
      → reduce (ord_max cmp) (x ∷ ys) ≡ option_or (reduce (ord_max cmp) ys) (Some x)
  least_last x [] h = refl
  least_last x (y ∷ ys) h = ap (λ o. Some (fold (ord_max cmp) (cond (is_lt o) x y) ys)) (total.antisymm y x ∙ ap ordering_reverse h.0)

  -- of items in order, the first that passes from the end on is the greatest that does
  pub last_is_greatest : (xs : List X) → IsStrictlySortedBy cmp (filter p xs) → find p (reverse xs) ≡ reduce (ord_max cmp) (filter p xs)
  unfolding IsStrictlySortedBy
  last_is_greatest [] s = refl
  last_is_greatest (x ∷ xs) s =
      ap (find p) (reverse-more x xs) ∙ find-append p (reverse xs) (x ∷ [])
      ∙ elim (p x) as (λ b. IsStrictlySortedBy cmp (cond b (x ∷ filter p xs) (filter p xs))
      → option_or (find p (reverse xs)) (cond b (Some x) None) ≡ reduce (ord_max cmp) (cond b (x ∷ filter p xs) (filter p xs))) [
        | true ↦ λ s. ap (λ o. option_or o (Some x)) (last_is_greatest xs s.1) ∙ sym (least_last x (filter p xs) s.0)
        | false ↦ λ s. ap (λ o. option_or o None) (last_is_greatest xs s) ∙ or_none (reduce (ord_max cmp) (filter p xs))
      ] s
    where
      or_none : (o : Option X) → option_or o None ≡ o
      or_none None = refl
      or_none (Some y) = refl

sorted_on : {X : Type 0} (f : X → ℕ) (xs : List X) → IsStrictlySortedBy nat_cmp (map f xs) → IsStrictlySortedBy (on f nat_cmp) xs
unfolding IsStrictlySortedBy
sorted_on f [] s = tt
sorted_on f (x ∷ xs) s = (before xs s.0, sorted_on f xs s.1)
  where
    before : (ys : List _) → AllByRecursion (λ n. nat_cmp (f x) n ≡ Less) (map f ys) → AllByRecursion (λ y. on f nat_cmp x y ≡ Less) ys
    before [] h = tt
    before (y ∷ ys) h = (h.0, before ys h.1)

module _ {X : Type 0} (p : X → Bool) where
  -- the one item that passes is found
  find_one : (x : X) (xs : List X) → AllByRecursion (λ y. p y ≡ true → y ≡ x) xs → p x ≡ true → IsIn x xs → find p xs ≡ Some x
  find_one x [] one is i = absurd i
  find_one x (y ∷ ys) one is (inl same) = ap (λ b. cond b (Some y) (find p ys)) (ap p same ∙ is) ∙ ap Some same
  find_one x (y ∷ ys) one is (inr i) =
      by_bool (p y) (λ h. ap (λ b. cond b (Some y) (find p ys)) h ∙ ap Some (one.0 h))
      (λ h. ap (λ b. cond b (Some y) (find p ys)) h ∙ find_one x ys one.1 is i)

  find_none : (xs : List X) → AllByRecursion (λ y. p y ≡ true → ⊥) xs → find p xs ≡ None
  find_none [] none = refl
  find_none (y ∷ ys) none = by_bool (p y) (λ h. absurd (none.0 h)) (λ h. ap (λ b. cond b (Some y) (find p ys)) h ∙ find_none ys none.1)

module _ (m : List (Place × Entry)) (ordered : IsStrictlySortedBy place_cmp (keys_of m))
    (placed : AreFoundAtPlaces m) (s : List ℕ) (deleted : Bool) where
  abbrev es : List Entry
  es = values_of m

  -- the last entry of a subject that counts is the one of greatest version
  pub latest_is : find (counts deleted) (reverse (filter (λ e. bytes_eq e.subject s) es)) ≡ latest es s deleted
  latest_is =
      last_is_greatest (on (λ e. e.version) nat_cmp) (on_total (λ e. e.version) nat_cmp_total)
      (counts deleted) (filter (λ e. bytes_eq e.subject s) es)
      (IsStrictlySortedBy-filter (on (λ e. e.version) nat_cmp) (counts deleted) (filter (λ e. bytes_eq e.subject s) es)
      (sorted_on (λ e. e.version) (filter (λ e. bytes_eq e.subject s) es)
      (rising s (λ e. bytes_eq e.subject s) (λ e. (bytes_eq-Decides e.subject s).0) es
      (values_in_order m (all_at_places m ordered placed) ordered))))

  module _ (v : ℕ) where
    -- an entry of the subject and the version is at their place
    here : (q : Place) (e : Entry) → found_at m q ≡ Some e → bytes_eq e.subject s ≡ true
        → (e.version == v) ≡ true → found_at m (s, v) ≡ Some e
    here q e found subject version =
        ap (found_at m) (λ i. (sym ((bytes_eq-Decides e.subject s).0 subject) i, sym (number e.version v version) i))
        ∙ ap (found_at m) (found_own m placed q e found)
        ∙ found
      where
        number : (a b : ℕ) → (a == b) ≡ true → a ≡ b
        number a b h = grind arith

    -- what is so of each entry of the subject that counts and is of the version
    each : (P : Entry → Type 0) → ((e : Entry) → found_at m (s, v) ≡ Some e → counts deleted e ≡ true → P e)
        → AllByRecursion (λ e. (e.version == v) ≡ true → P e) (filter (counts deleted) (filter (λ e. bytes_eq e.subject s) es))
    each P f =
        all_filter (counts deleted) (λ e. (e.version == v) ≡ true → P e) (filter (λ e. bytes_eq e.subject s) es)
        (all_filter (λ e. bytes_eq e.subject s) (λ e. counts deleted e ≡ true → (e.version == v) ≡ true → P e) es
        (all_map (λ (e : Place × Entry). e.1) (λ e. bytes_eq e.subject s ≡ true → counts deleted e ≡ true → (e.version == v) ≡ true → P e) m
        (all_found (λ q e. bytes_eq e.subject s ≡ true → counts deleted e ≡ true → (e.version == v) ≡ true → P e) m ordered
        (λ q e found subject count version. f e (here q e found subject version) count))))

    -- the entry at the place of a subject and a version, if it counts
    pub of_version_is : option_filter (counts deleted) (found_at m (s, v)) ≡ of_version es s v deleted
    of_version_is = by_entry (found_at m (s, v)) refl
      where
        itself : (a b : ℕ) → a ≡ b → (a == b) ≡ true
        itself a b h = grind arith

        by_entry : (o : Option Entry) → found_at m (s, v) ≡ o → option_filter (counts deleted) o ≡ of_version es s v deleted
        by_entry None none = sym (find_none (λ e. e.version == v) _ (each (λ _. ⊥) (λ e found count. not_both e _ found none)))
        by_entry (Some e) found =
            by_bool (counts deleted e)
            (λ count. ap (λ b. cond b (Some e) None) count
            ∙ sym (
            find_one (λ e. e.version == v) e _ (each (λ f. f ≡ e) (λ f at _. same_Some f e (sym at ∙ found)))
            (itself e.version v (ap (λ (p : Place). p.1) own))
            (in_filter (counts deleted) e (filter (λ e. bytes_eq e.subject s) es) count
            (in_filter (λ e. bytes_eq e.subject s) e es
            ((bytes_eq-Decides e.subject s).1 (ap (λ (p : Place). p.0) own)) (in_values (s, v) e m found)))))
            (λ not. ap (λ b. cond b (Some e) None) not
            ∙ sym (
            find_none (λ e. e.version == v) _ (
            each (λ _. ⊥) (λ f at count. never (counts deleted e) (ap (counts deleted) (same_Some e f (sym found ∙ at)) ∙ count) not))))
          where
            own : place_of e ≡ (s, v)
            own = found_own m placed (s, v) e found
