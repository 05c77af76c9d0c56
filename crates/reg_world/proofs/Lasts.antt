-- The last records of parts of a set.
use Rattle.std.proofs.Common.{◌≡◌, ◌⊎◌, inl, inr, ◌≤◌, Bool, true, false, ◌&&◌, Option}
use Rattle.std.proofs.Common.{Some, None, IfSome, refl, sym, ap, subst, ◌∙◌, arith, ℕ}
use Rattle.std.proofs.lemmas.Bool.{false≢true}
use Rattle.std.proofs.lemmas.Map.Keys.{le_from_is_le}
use Rattle.std.specs.FinSet.{contains, retain, union, contains-retain, contains-union}
use Rattle.std.specs.Ordering.{is_le, ordering_then}
use Rattle.std.specs.declared.cmp.Ordering.{Ordering}
use Rattle.std.specs.declared.cmp.Ordering.TheVariants.{Less, Equal, Greater}
use Rattle.reg_alike.specs.reg_records.declared.key.Key.{Key}
use Rattle.reg_alike.specs.reg_records.declared.record.Record.{Record}
use Rattle.reg_alike.specs.reg_set.Compaction.{IsGone}
use Rattle.reg_alike.specs.reg_set.LastRecords.{last}
use Rattle.reg_alike.specs.reg_set.RecordOrder.{age_cmp, value_cmp}
use Rattle.reg_alike.specs.reg_set.Records.{Records}
use Rattle.reg_alike.specs.reg_floored.Compaction.{IsCompactionOf, KeepsLasts}
use Rattle.reg_alike.specs.reg_floored.Floored.{Floored}
use Rattle.reg_world.specs.LowerLaws.{LowerLaws}
use Rattle.reg_world.proofs.Bools.{and-true, both_true, either, or_left, or_right}

-- what holds where there is a value
pub if_some : {X : Type 0} (o : Option X) (P : X → Type 0) → ((x : X) → o ≡ Some x → P x) → IfSome o P
if_some None P f = tt
if_some (Some x) P f = f x refl

pub of_some : {X : Type 0} (o : Option X) (P : X → Type 0) (x : X) → IfSome o P → o ≡ Some x → P x
of_some o P x p is = subst (λ q. IfSome q P) is p

some≢none : (o : Option Record) (r : Record) → o ≡ Some r → o ≡ None → ⊥
some≢none o r is gone = let e : Some r ≡ None = sym is ∙ gone in cc

abbrev pub IsPart : Records → Records → Type 0
IsPart C R = (r : Record) → contains C r ≡ true → contains R r ≡ true

-- a set that keeps each last record is a compaction at each floor
pub keeps_compacted : (C R : Records) (f g : ℕ) → g ≤ f → KeepsLasts C R
    → IsCompactionOf (record { records = C; floor = f }) (record { records = R; floor = g })
keeps_compacted C R f g rises keeps = record {
  floor_rises = rises;
  is_below_floor = record {
    is_part = keeps.is_part;
    has_lasts = λ key. if_some (last R key) _ (λ r is. inl (of_some (last R key) _ r (keeps.has_lasts key) is));
  };
}

-- what a compaction has of a key
pub lasts_in : (C R : Floored) → IsCompactionOf C R → (key : Key) (r : Record)
    → last R.records key ≡ Some r → (contains C.records r ≡ true) ⊎ IsGone C.floor C.records r
lasts_in C R c key r is = of_some (last R.records key) _ r (c.is_below_floor.has_lasts key) is

-- an older record of a key stands no later
first_le : (a b : Ordering) → is_le (ordering_then a b) ≡ true → is_le a ≡ true
first_le Less b h = refl
first_le Equal b h = refl
first_le Greater b h = absurd (false≢true h)

offset_le : (q r : Record) → is_le (age_cmp q r) ≡ true → q.offset ≤ r.offset
unfolding age_cmp
offset_le q r h = le_from_is_le q.offset r.offset (first_le _ (value_cmp q.value r.value) h)

module _ (l : LowerLaws) where
  pub in_set : (R : Records) (key : Key) (r : Record) → last R key ≡ Some r → contains R r ≡ true
  in_set R key r is = ((l.greatest R key r).0 is).is_in_set

  pub key_is : (R : Records) (key : Key) (r : Record) → last R key ≡ Some r → r.key ≡ key
  key_is R key r is = ((l.greatest R key r).0 is).is_of_key

  pub own_last : (R : Records) (key : Key) (r : Record) → last R key ≡ Some r → last R r.key ≡ Some r
  own_last R key r is = ap (last R) (key_is R key r is) ∙ is

  -- the offsets of a key rise to that of its last record
  pub offset_upto : (R : Records) (key : Key) (r q : Record) → last R key ≡ Some r → contains R q ≡ true → q.key ≡ key → q.offset ≤ r.offset
  offset_upto R key r q is inside same = offset_le q r (((l.greatest R key r).0 is).is_greatest q inside same)

  pub no_record : (R : Records) (key : Key) → last R key ≡ None → (q : Record) → contains R q ≡ true → q.key ≡ key → ⊥
  no_record R key gone q inside same = l.none R q inside (ap (last R) same ∙ gone)

  pub last_absent : (R : Records) (key : Key) → ((q : Record) → contains R q ≡ true → q.key ≡ key → ⊥) → last R key ≡ None
  last_absent R key nothing =
      elim (last R key) as (λ o. last R key ≡ o → o ≡ None) [
        | None ↦ λ _. refl
        | Some q ↦ λ is. absurd (nothing q (in_set R key q is) (key_is R key q is))
      ] refl

  -- a key with a record has a last one
  pub last_some : (R : Records) (key : Key) (q : Record) → contains R q ≡ true → q.key ≡ key → (r : Record) × (last R key ≡ Some r)
  last_some R key q inside same =
      elim (last R key) as (λ o. last R key ≡ o → (r : Record) × (o ≡ Some r)) [
        | None ↦ λ no. absurd (no_record R key no q inside same)
        | Some r ↦ λ _. (r, refl)
      ] refl

  -- a last record that a part has is the part's last one
  pub last_of_part : (C R : Records) → IsPart C R → (key : Key) (r : Record)
      → last R key ≡ Some r → contains C r ≡ true → last C key ≡ Some r
  last_of_part C R part key r is has =
      let g = (l.greatest R key r).0 is in
      (l.greatest C key r).1 (
      record { is_in_set = has; is_of_key = g.is_of_key; is_greatest = λ q in_c of_key. g.is_greatest q (part q in_c) of_key })

  -- the last record of a compaction is that of the whole
  pub last_of_whole : (C R : Floored) → IsCompactionOf C R → (key : Key) (r : Record)
      → last C.records key ≡ Some r → last R.records key ≡ Some r
  last_of_whole C R c key r is =
      elim (l.last_of C R c key) [
        | inl same ↦ sym same ∙ is
        | inr gone ↦ absurd (some≢none (last C.records key) r is gone.0)
      ]

  -- unions
  pub in_left : (R S : Records) (q : Record) → contains R q ≡ true → contains (union R S) q ≡ true
  in_left R S q h = contains-union l.order R S q ∙ or_left (contains R q) (contains S q) h

  pub in_right : (R S : Records) (q : Record) → contains S q ≡ true → contains (union R S) q ≡ true
  in_right R S q h = contains-union l.order R S q ∙ or_right (contains R q) (contains S q) h

  pub in_either : (R S : Records) (q : Record) → contains (union R S) q ≡ true → (contains R q ≡ true) ⊎ (contains S q ≡ true)
  in_either R S q h = either (contains R q) (contains S q) (sym (contains-union l.order R S q) ∙ h)

  -- what stands of a key that two sets have none of, or have that record of
  pub joined_of : (C D : Records) (r : Record) → (last C r.key ≡ None) ⊎ (contains C r ≡ true)
      → (last D r.key ≡ None) ⊎ (contains D r ≡ true)
      → (last (union C D) r.key ≡ None) ⊎ (contains (union C D) r ≡ true)
  joined_of C D r (inr has) other = inr (in_left C D r has)
  joined_of C D r (inl none) (inr has) = inr (in_right C D r has)
  joined_of C D r (inl none) (inl nor) = inl (last_absent (union C D) r.key (λ q inside same.
      elim (in_either C D q inside) [
        | inl one ↦ no_record C r.key none q one same
        | inr other ↦ no_record D r.key nor q other same
      ]))

  -- parts
  contains-part : (S : Records) (p : Record → Bool) (q : Record) → contains (retain S p) q ≡ (contains S q && p q)
  contains-part S p q = contains-retain S p q (λ x e. ap p (sym (l.apart q x e)))

  pub in_part : (S : Records) (p : Record → Bool) (q : Record) → contains S q ≡ true → p q ≡ true → contains (retain S p) q ≡ true
  in_part S p q inside passes = contains-part S p q ∙ and-true inside passes

  pub of_part : (S : Records) (p : Record → Bool) (q : Record) → contains (retain S p) q ≡ true → (contains S q ≡ true) × (p q ≡ true)
  of_part S p q h = both_true (contains S q) (p q) (sym (contains-part S p q) ∙ h)
