-- The entry of a list that is at a place.
use Rattle.std.proofs.Common.{◌≡◌, ◌⊎◌, inl, inr, suc, zero, true, false, cond, List, [], ◌∷◌, Option}
use Rattle.std.proofs.Common.{Some, None, Contains, option_and_then, refl, sym, ap, subst, ◌∙◌, arith}
use Rattle.std.proofs.lemmas.Bool.{false≢true}
use Rattle.std.proofs.lemmas.Cmp.{nat_cmp_total, nat_list_cmp_total, on_total, then_total, tied_itself}
use Rattle.std.specs.Cmp.{Equal-is, IsTotalOrder}
use Rattle.std.specs.Cmp.Lexicographic.{slice_cmp}
use Rattle.std.specs.FinMap.{nat_cmp-IsAntisymmetric, slice_cmp-IsAntisymmetric}
use Rattle.std.specs.Ordering.{eq_by_cmp, is_eq, nat_cmp, ordering_then}
use Rattle.std.specs.declared.cmp.Ordering.{Ordering}
use Rattle.std.specs.declared.cmp.Ordering.TheVariants.{Less, Equal, Greater}
use Rattle.reg_alike.specs.reg_records.declared.key.Key.TheVariants as keys
use Rattle.reg_alike.specs.reg_set.Join.{LastIsGreatest}
use Rattle.reg_alike.specs.reg_set.LastRecords.{last, last_records}
use Rattle.reg_alike.specs.reg_set.Records.{Records}
use Rattle.reg_alike.specs.reg_entries.EntryOrder.{Place, place_cmp, place_of}
use Rattle.reg_alike.specs.reg_entries.declared.entry.Entry.{Entry}
use Rattle.reg_alike.specs.reg_fold.Entries.{EntriesAreOfKeys, EntriesAreOfPlaces, entries, entry_of}
use Rattle.reg_world.specs.Eager.{standing_at}

pub place_cmp-total : IsTotalOrder place_cmp
place_cmp-total = then_total (on_total (λ p. p.0) nat_list_cmp_total) (on_total (λ p. p.1) nat_cmp_total)

then_ties : (a b : Ordering) → ordering_then a b ≡ Equal → (a ≡ Equal) × (b ≡ Equal)
then_ties Less b e = absurd (cc)
then_ties Equal b e = (refl, e)
then_ties Greater b e = absurd (cc)

-- places that tie are one place
pub place_cmp-ties : (p q : Place) → place_cmp p q ≡ Equal → p ≡ q
place_cmp-ties p q e =
    let ties = then_ties (slice_cmp nat_cmp p.0 q.0) (nat_cmp p.1 q.1) e in
    let subjects = slice_cmp-IsAntisymmetric nat_cmp-IsAntisymmetric p.0 q.0 ties.0 in
    let versions = nat_cmp-IsAntisymmetric p.1 q.1 ties.1 in
    λ i. (subjects i, versions i)

pub same_place : (p q : Place) → eq_by_cmp place_cmp p q ≡ true → p ≡ q
same_place p q h = place_cmp-ties p q ((Equal-is (place_cmp p q)).0 h)

pub at_itself : (p : Place) → eq_by_cmp place_cmp p p ≡ true
at_itself p = ap is_eq (tied_itself place_cmp-total p)

module _ {A : Type 0} where
  pub head : (x : A) (xs : List A) → Contains (x ∷ xs) x
  head x xs = (0, omega arith, refl)

  pub tail : (y : A) (xs : List A) (x : A) → Contains xs x → Contains (y ∷ xs) x
  tail y xs x c = (suc c.0, omega (arith, c.1), c.2)

  -- an element of a list is its first one or one of the rest
  pub first_or_rest : (y : A) (ys : List A) (x : A) → Contains (y ∷ ys) x → (y ≡ x) ⊎ Contains ys x
  first_or_rest y ys x (zero, lt, is) = inl is
  first_or_rest y ys x (suc k, lt, is) = inr (k, omega arith, is)

-- what is found is in the list, at the place
pub found-some : (p : Place) (es : List Entry) (e : Entry) → standing_at p es ≡ Some e → Contains es e × (place_of e ≡ p)
found-some p [] e h = cc
found-some p (x ∷ xs) e h =
    elim (eq_by_cmp place_cmp p (place_of x)) as (λ b.
    eq_by_cmp place_cmp p (place_of x) ≡ b → cond b (Some x) (standing_at p xs) ≡ Some e → Contains (x ∷ xs) e × (place_of e ≡ p)) [
      | true ↦ λ t same.
          let is : x ≡ e = cc in
          (subst (Contains (x ∷ xs)) is (head x xs), ap place_of (sym is) ∙ sym (same_place p (place_of x) t))
      | false ↦ λ _ rest. let f = found-some p xs e rest in (tail x xs e f.0, f.1)
    ] refl h

-- where nothing is found, no entry of the list is at the place
pub found-none : (p : Place) (es : List Entry) → standing_at p es ≡ None → (e : Entry) → Contains es e → place_of e ≡ p → ⊥
found-none p [] none e (k, lt, is) here = omega arith
found-none p (x ∷ xs) none e c here =
    elim (eq_by_cmp place_cmp p (place_of x)) as (λ b.
    eq_by_cmp place_cmp p (place_of x) ≡ b → cond b (Some x) (standing_at p xs) ≡ None → ⊥) [
      | true ↦ λ _ h. cc
      | false ↦ λ apart h. elim (first_or_rest x xs e c) [
        | inl same ↦ false≢true (sym apart ∙ ap (eq_by_cmp place_cmp p) (ap place_of same ∙ here) ∙ at_itself p)
        | inr rest ↦ found-none p xs h e rest here
      ]
    ] refl none

-- of the entries of a log, by the last record of the place
abbrev pub there : Records → Place → Option Entry
there log p = option_and_then (entry_of (last_records log)) (last log (keys.Schema p.0 p.1))

module _ (greatest : LastIsGreatest) (keyed : EntriesAreOfKeys) (stand : EntriesAreOfPlaces) where
  pub at_place : (log : Records) (p : Place) → standing_at p (entries (last_records log)) ≡ there log p
  at_place log p =
      elim (standing_at p (entries (last_records log))) as (λ o. standing_at p (entries (last_records log)) ≡ o → o ≡ there log p) [
        | None ↦ λ none.
            elim (last log (keys.Schema p.0 p.1)) as (λ o.
            last log (keys.Schema p.0 p.1) ≡ o → None ≡ option_and_then (entry_of (last_records log)) o) [
              | None ↦ λ _. refl
              | Some r ↦ λ here. elim (entry_of (last_records log) r) as (λ o. entry_of (last_records log) r ≡ o → None ≡ o) [
                | None ↦ λ _. refl
                | Some e ↦ λ gives.
                    let k : keys.Schema p.0 p.1 ≡ keys.Schema e.subject e.version =
                    sym ((greatest log (keys.Schema p.0 p.1) r).0 here).is_of_key ∙ keyed (last_records log) r e gives in
                    let subject : e.subject ≡ p.0 = cc in
                    let version : e.version ≡ p.1 = cc in
                    absurd (
                    found-none p (entries (last_records log)) none e
                    ((stand log e).1 (r, ap (last log) (sym k) ∙ here, gives)) (λ i. (subject i, version i)))
              ] refl
            ] refl
        | Some e ↦ λ some.
            let f = found-some p (entries (last_records log)) e some in
            let s = (stand log e).0 f.0 in
            sym (ap (there log) (sym f.1) ∙ ap (option_and_then (entry_of (last_records log))) s.1 ∙ s.2)
      ] refl
