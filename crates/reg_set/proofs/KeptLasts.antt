-- A set and each of its parts that keep its last records have the same last ones.
use Rattle.std.proofs.Common.{◌≡◌, Bool, true, false, not, ◌&&◌, ◌||◌, ⊎_elim, List, [], ◌∷◌, Some, None, IfSome, refl, sym, ap, subst, ◌∙◌}
use Rattle.std.proofs.lemmas.Bool.{false≢true}
use Rattle.std.specs.FinSet.{contains, difference, empty, insert, union, contains-difference, contains-retain}
use Rattle.std.specs.List.{list_all, list_any}
use Rattle.std.specs.Option.{option_map_or}
use Rattle.std.specs.Ordering.{eq_by_cmp, is_eq}
use Rattle.std.proofs.lemmas.Cmp.{tied_itself}
use Rattle.reg_records.specs.declared.key.Key.{Key}
use Rattle.reg_records.specs.declared.record.Record.{Record}
use Rattle.reg_set.specs.RecordOrder.{record_cmp}
use Rattle.reg_set.specs.Records.{Records, records_of}
use Rattle.reg_set.specs.Compaction.{KeepsLasts}
use Rattle.reg_set.specs.LastRecords.{last, is_last, last_records}
use Rattle.reg_set.specs.Join.{LastOfLastRecords, LastOfPart, KeepingLastsComposes, KeepingLastsUnites, DropsKeepLasts}
use Rattle.reg_set.specs.Join.{EachKeepsItsLasts, LastRecordsKeepLasts, LastRecordsOfPart}
use Rattle.reg_set.specs.Join.{LastRecordsOfInsert, LastRecordsOfUnion}
use Rattle.reg_set.proofs.Orders.{record_cmp-total, record_cmp-ties}
use Rattle.reg_set.proofs.InOrder.{both, first_of, second_of, contains-records_of}
use Rattle.reg_set.proofs.Lasts.{equal, at_any, last-some, last-none, last-greatest, last-absent}
use Rattle.reg_set.proofs.Unions.{one_set, in_left, in_right, in_either, insert-union}

pub contains-last_records : (s : Records) (r : Record) → contains (last_records s) r ≡ (contains s r && is_last s r)
unfolding last_records
contains-last_records s r = contains-retain s (is_last s) r (λ x e. ap (is_last s) (sym (record_cmp-ties r x e)))

pub is_last-last : (s : Records) (r : Record) → is_last s r ≡ true → last s r.key ≡ Some r
unfolding is_last
is_last-last s r h =
    elim (last s r.key) as (λ o. option_map_or (eq_by_cmp record_cmp r) o false ≡ true → o ≡ Some r) [
      | None ↦ λ h. absurd (false≢true h)
      | Some q ↦ λ h. ap Some (sym (record_cmp-ties r q (equal _ h)))
    ] h

pub last-is_last : (s : Records) (r : Record) → last s r.key ≡ Some r → is_last s r ≡ true
unfolding is_last
last-is_last s r e = ap (λ o. option_map_or (eq_by_cmp record_cmp r) o false) e ∙ ap is_eq (tied_itself record_cmp-total r)

-- the last records are those that are the last of their keys
pub last_records-last : (s : Records) (r : Record) → contains (last_records s) r ≡ true → last s r.key ≡ Some r
last_records-last s r h = is_last-last s r (second_of (contains s r) _ (sym (contains-last_records s r) ∙ h))

pub last-last_records : (s : Records) (key : Key) (r : Record) → last s key ≡ Some r → contains (last_records s) r ≡ true
last-last_records s key r e =
    let fact = last-some s key r e in
    contains-last_records s r ∙ both fact.is_in_set (last-is_last s r (ap (last s) fact.is_of_key ∙ e))

pub lasts_in : (C R : Records) → KeepsLasts C R → (key : Key) (r : Record) → last R key ≡ Some r → contains C r ≡ true
lasts_in C R h key r e = subst (λ o. IfSome o (λ r. contains C r ≡ true)) e (h.has_lasts key)

pub keeps_lasts_from : (C R : Records) → ((r : Record) → contains C r ≡ true → contains R r ≡ true)
    → ((key : Key) (r : Record) → last R key ≡ Some r → contains C r ≡ true) → KeepsLasts C R
keeps_lasts_from C R part lasts = record {
  is_part = part;
  has_lasts = λ key.
      elim (last R key)
      as (λ o. last R key ≡ o → IfSome o (λ r. contains C r ≡ true)) [ None ↦ λ _. tt | Some r ↦ λ e. lasts key r e ] refl;
}

pub keeps_own_lasts : EachKeepsItsLasts
keeps_own_lasts R = keeps_lasts_from R R (λ r h. h) (λ key r e. (last-some R key r e).is_in_set)

pub last_of_part : LastOfPart
last_of_part C R h key =
    elim (last R key) as (λ o. last R key ≡ o → last C key ≡ o) [
      | None ↦ λ e. last-absent C key (λ q inside same. last-none R key e q (h.is_part q inside) same)
      | Some r ↦ λ e.
          let fact = last-some R key r e in
          last-greatest C key r (record {
            is_in_set = lasts_in C R h key r e;
            is_of_key = fact.is_of_key;
            is_greatest = λ q inside same. fact.is_greatest q (h.is_part q inside) same;
          })
    ] refl

pub last_records_keep_lasts : LastRecordsKeepLasts
last_records_keep_lasts R =
    keeps_lasts_from (last_records R) R (λ r h. first_of _ (is_last R r) (sym (contains-last_records R r) ∙ h)) (last-last_records R)

pub last_of_last_records : LastOfLastRecords
last_of_last_records R key = last_of_part (last_records R) R (last_records_keep_lasts R) key

pub last_records_of_part : LastRecordsOfPart
last_records_of_part C R h =
    one_set (last_records C) (last_records R)
    (λ q inside. last-last_records R q.key q (sym (last_of_part C R h q.key) ∙ last_records-last C q inside))
    (λ q inside. last-last_records C q.key q (last_of_part C R h q.key ∙ last_records-last R q inside))

-- what is last in a set is last in each part that has it
last_in_part : (P R : Records) → ((q : Record) → contains P q ≡ true → contains R q ≡ true)
    → (key : Key) (r : Record) → last R key ≡ Some r → contains P r ≡ true → last P key ≡ Some r
last_in_part P R part key r e inside =
    let fact = last-some R key r e in
    last-greatest P key r (
    record { is_in_set = inside; is_of_key = fact.is_of_key; is_greatest = λ q there same. fact.is_greatest q (part q there) same })

pub keeping_lasts_unites : KeepingLastsUnites
keeping_lasts_unites C R D S c d =
    keeps_lasts_from (union C D) (union R S)
    (λ r h. ⊎_elim (λ k. in_left R S r (c.is_part r k)) (λ k. in_right R S r (d.is_part r k)) (in_either C D r h))
    (λ key r e. ⊎_elim
    (λ k. in_left C D r (lasts_in C R c key r (last_in_part R (union R S) (in_left R S) key r e k)))
    (λ k. in_right C D r (lasts_in D S d key r (last_in_part S (union R S) (in_right R S) key r e k)))
    (in_either R S r (last-some (union R S) key r e).is_in_set))

pub last_records_of_union : LastRecordsOfUnion
last_records_of_union R S =
    last_records_of_part (union (last_records R) S) (union R S)
    (keeping_lasts_unites (last_records R) R S S (last_records_keep_lasts R) (keeps_own_lasts S))

pub last_records_of_insert : LastRecordsOfInsert
last_records_of_insert R r =
    ap last_records (insert-union (last_records R) r) ∙ last_records_of_union R (insert empty r) ∙ ap last_records (sym (insert-union R r))

pub keeping_lasts_composes : KeepingLastsComposes
keeping_lasts_composes B C R b c =
    keeps_lasts_from B R (λ r h. c.is_part r (b.is_part r h)) (λ key r e. lasts_in B C b key r (last_of_part C R c key ∙ e))

-- what is dropped: none of it is left, and what isn't dropped is
contains-dropped : (R D : Records) (r : Record) → contains (difference R D) r ≡ (contains R r && not (contains D r))
contains-dropped R D r = contains-difference record_cmp-total R D r

away : (a b : Bool) → (a && not b) ≡ true → b ≡ true → ⊥
away true true h e = false≢true h
away false b h e = false≢true h
away true false h e = false≢true e

kept : (a b : Bool) → a ≡ true → (b ≡ true → ⊥) → (a && not b) ≡ true
kept true true e h = absurd (h refl)
kept true false e h = refl
kept false b e h = absurd (false≢true e)

stays_false : (b : Bool) → (b ≡ true → ⊥) → b ≡ false
stays_false true h = absurd (h refl)
stays_false false h = refl

pub drops_keep_lasts : DropsKeepLasts
drops_keep_lasts R D = (
  λ left r dropped.
      stays_false (is_last R r) (λ is.
      away (contains R r) (contains D r)
      (sym (contains-dropped R D r) ∙ lasts_in (difference R D) R left r.key r (is_last-last R r is)) dropped),
  λ no_lasts. keeps_lasts_from (difference R D) R
      (λ r h. first_of (contains R r) (not (contains D r)) (sym (contains-dropped R D r) ∙ h))
      (λ key r e.
      let fact = last-some R key r e in
      let is : is_last R r ≡ true = last-is_last R r (ap (last R) fact.is_of_key ∙ e) in
      contains-dropped R D r ∙ kept (contains R r) (contains D r) fact.is_in_set (λ dropped. false≢true (sym (no_lasts r dropped) ∙ is))),
)

-- what holds of each of a list, from what holds of each that is among it
pub all_from : (p : Record → Bool) (xs : List Record)
    → ((q : Record) → list_any (eq_by_cmp record_cmp q) xs ≡ true → p q ≡ true) → list_all p xs ≡ true
all_from p [] each = refl
all_from p (x ∷ xs) each =
    both (each x (ap (λ o. is_eq o || list_any (eq_by_cmp record_cmp x) xs) (tied_itself record_cmp-total x)))
    (all_from p xs (λ q h. each q (among (eq_by_cmp record_cmp q x) _ h)))
  where
    among : (a b : Bool) → b ≡ true → (a || b) ≡ true
    among true b h = refl
    among false b h = h

-- the two tests that tell whether the lasts are kept
module _ (C R : Records) where
  abbrev is_part : Bool
  is_part = list_all (contains R) (records_of C)

  abbrev has_last : Record → Bool
  has_last r = option_map_or (contains C) (last R r.key) true

  pub KeepsLasts-from_tests : is_part ≡ true → list_all has_last (records_of R) ≡ true → KeepsLasts C R
  KeepsLasts-from_tests part lasts =
      keeps_lasts_from C R (λ r h. at_any (contains R) r (records_of C) part (sym (contains-records_of C r) ∙ h))
      (λ key r e.
      let fact = last-some R key r e in
      let there = at_any has_last r (records_of R) lasts (sym (contains-records_of R r) ∙ fact.is_in_set) in
      ap (λ o. option_map_or (contains C) o true) (sym (ap (last R) fact.is_of_key ∙ e)) ∙ there)

  pub tests-from_KeepsLasts : KeepsLasts C R → (is_part ≡ true) × (list_all has_last (records_of R) ≡ true)
  tests-from_KeepsLasts h = (
    all_from (contains R) (records_of C) (λ q there. h.is_part q (contains-records_of C q ∙ there)),
    all_from has_last (records_of R) (λ q _. last_there q.key),
  )
    where
      last_there : (key : Key) → option_map_or (contains C) (last R key) true ≡ true
      last_there key =
          elim (last R key) as (λ o. last R key ≡ o → option_map_or (contains C) o true ≡ true) [
            | None ↦ λ _. refl
            | Some r ↦ λ e. lasts_in C R h key r e
          ] refl
