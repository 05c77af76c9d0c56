-- What stays of the last records where deletes below a floor go.
use Rattle.std.proofs.Common.{◌≡◌, ◌≤◌, ◌<◌, ◌+◌, ◌==◌, ◌⊎◌, inl, inr, ℕ, Bool, true, false, not, cond, ◌&&◌, ◌||◌}
use Rattle.std.proofs.Common.{List, length, take, get_or, Option, Some, None, refl, sym, ap, subst, ◌∙◌, arith}
use Rattle.std.proofs.lemmas.Bool.{and_parts, and_from, false≢true}
use Rattle.std.proofs.lemmas.Bool.Decides.{nat_tests}
use Rattle.std.proofs.lemmas.List.Folds.{list_any_more}
use Rattle.std.specs.Cmp.{IsTotalOrder}
use Rattle.std.specs.FinSet.{IsAntisymmetric, contains, contains-from_list, contains-remove, contains-retain, from_list, remove, same_set}
use Rattle.std.specs.List.{list_any}
use Rattle.std.specs.Ordering.{eq_by_cmp, is_le, ordering_then, nat_cmp}
use Rattle.std.specs.Prelude.{nat_lt, is_none}
use Rattle.std.specs.declared.cmp.Ordering.{Ordering}
use Rattle.std.specs.declared.cmp.Ordering.TheVariants.{Less, Equal, Greater}
use Rattle.reg_floored.specs.Floors.{compacted_to}
use Rattle.reg_records.specs.declared.record.Record.{Record}
use Rattle.reg_set.specs.Compaction.{deletes_below}
use Rattle.reg_set.specs.Join.{LastIsGreatest, LastRecordsKeepLasts, NoLastIsNoRecord}
use Rattle.reg_set.specs.LastRecords.{last, last_records}
use Rattle.reg_set.specs.RecordOrder.{age_cmp, key_cmp, record_cmp}
use Rattle.reg_set.specs.Records.{Records}
use Rattle.reg_compaction.proofs.Lasts.{HasOneAKey, lasts_have_one, same_record}

-- the age of a record tells its offset
first_le : (m n : ℕ) (o : Ordering) → is_le (ordering_then (nat_cmp m n) o) ≡ true → m ≤ n
first_le m n o is =
    elim (nat_lt m n) as (λ b. nat_lt m n ≡ b → is_le (ordering_then (cond b Less (cond (m == n) Equal Greater)) o) ≡ true → m ≤ n) [
      | true ↦ λ t is. let lt : m < n = grind (arith, nat_tests) in omega arith
      | false ↦ λ t is.
          elim (m == n) as (λ b. (m == n) ≡ b → is_le (ordering_then (cond b Equal Greater) o) ≡ true → m ≤ n) [
            | true ↦ λ e is. let same : m ≡ n = grind (arith, nat_tests) in omega arith
            | false ↦ λ e is. absurd (false≢true is)
          ] refl is
    ] refl is

older : (q r : Record) → is_le (age_cmp q r) ≡ true → q.offset ≤ r.offset
unfolding age_cmp
older q r is = first_le q.offset r.offset _ is

-- ---- one record of a list more is looked at

-- what stays of a record once some records were looked at
abbrev stays : Bool → Bool → Bool → Bool
stays was deletes seen = was && not (deletes && seen)

one_less : (was deletes seen here : Bool) → (here ≡ true → deletes ≡ true)
    → (not here && stays was deletes seen) ≡ stays was deletes (seen || here)
one_less true true true true is = refl
one_less true true true false is = refl
one_less true true false true is = refl
one_less true true false false is = refl
one_less true false seen true is = absurd (false≢true (is refl))
one_less true false true false is = refl
one_less true false false false is = refl
one_less false deletes seen true is = refl
one_less false deletes seen false is = refl

none_less : (was deletes seen here : Bool) → (here ≡ true → deletes ≡ false) → stays was deletes seen ≡ stays was deletes (seen || here)
none_less was true true here is = refl
none_less was true false true is = absurd (false≢true (sym (is refl)))
none_less was true false false is = refl
none_less was false seen here is = refl

-- the deletes below the floor among the first records of the list are gone
pub record AreDropped (floor : ℕ) (seen : List Record) (old now : Records) : Type 0 where
  pub left : (q : Record) → contains now q ≡ (contains old q && not (deletes_below floor q && list_any (eq_by_cmp record_cmp q) seen))

none_seen : (was deletes : Bool) → was ≡ stays was deletes false
none_seen true true = refl
none_seen true false = refl
none_seen false deletes = refl

pub at_first : (floor : ℕ) (rs : List Record) (old : Records) → AreDropped floor (take 0 rs) old old
at_first floor rs old = record { left = λ q. none_seen (contains old q) (deletes_below floor q) }

module _ (total : IsTotalOrder record_cmp) (apart : IsAntisymmetric record_cmp)
    (keys : IsTotalOrder key_cmp) (keys_apart : IsAntisymmetric key_cmp) where
  module _ (floor : ℕ) (rs : List Record) (i : ℕ) (d : Record) (within : i < length rs)
      (old now : Records) (was : AreDropped floor (take i rs) old now) where
    abbrev r : Record
    r = get_or rs i d

    more : (q : Record)
        → list_any (eq_by_cmp record_cmp q) (take (i + 1) rs) ≡ (list_any (eq_by_cmp record_cmp q) (take i rs) || eq_by_cmp record_cmp q r)
    more q = list_any_more (eq_by_cmp record_cmp q) rs i d within

    pub one_dropped : (new : Records) → deletes_below floor r ≡ true → new ≡ remove now r → AreDropped floor (take (i + 1) rs) old new
    one_dropped new deletes is = record {
      left = λ q.
          ap (λ (s : Records). contains s q) is
          ∙ contains-remove total now r q
          ∙ ap (λ (b : Bool). not (eq_by_cmp record_cmp q r) && b) (was.left q)
          ∙ one_less (contains old q) (deletes_below floor q) (list_any (eq_by_cmp record_cmp q) (take i rs)) (eq_by_cmp record_cmp q r)
          (λ same. ap (deletes_below floor) (same_record total apart keys keys_apart q r same) ∙ deletes)
          ∙ ap (λ (b : Bool). contains old q && not (deletes_below floor q && b)) (sym (more q));
    }

    pub none_dropped : deletes_below floor r ≡ false → AreDropped floor (take (i + 1) rs) old now
    none_dropped stands = record {
      left = λ q.
          was.left q
          ∙ none_less (contains old q) (deletes_below floor q) (list_any (eq_by_cmp record_cmp q) (take i rs)) (eq_by_cmp record_cmp q r)
          (λ same. ap (deletes_below floor) (same_record total apart keys keys_apart q r same) ∙ stands)
          ∙ ap (λ (b : Bool). contains old q && not (deletes_below floor q && b)) (sym (more q));
    }

  -- ---- what compacting to a floor keeps

  pub contains-compacted : (floor : ℕ) (s : Records) (q : Record)
      → contains (compacted_to floor s) q ≡ (contains (last_records s) q && not (deletes_below floor q))
  contains-compacted floor s q =
      contains-retain (last_records s) (λ r. not (deletes_below floor r)) q
      (λ x e. ap (λ (r : Record). not (deletes_below floor r)) (sym (apart q x e)))

  was_last : (floor : ℕ) (s : Records) (q : Record) → contains (compacted_to floor s) q ≡ true → contains (last_records s) q ≡ true
  was_last floor s q is =
      (and_parts (contains (last_records s) q) (not (deletes_below floor q)) (sym (contains-compacted floor s q) ∙ is)).0

  pub compacted_have_one : (floor : ℕ) (s : Records) → HasOneAKey (compacted_to floor s)
  compacted_have_one floor s q r has_q has_r same =
      lasts_have_one total apart keys keys_apart s q r (was_last floor s q has_q) (was_last floor s r has_r) same

  all_seen : (was deletes seen : Bool) → (was ≡ true → seen ≡ true) → stays was deletes seen ≡ (was && not deletes)
  all_seen true true true is = refl
  all_seen true true false is = absurd (false≢true (is refl))
  all_seen true false seen is = refl
  all_seen false deletes seen is = refl

  module _ (least : LastRecordsKeepLasts) where
    pub compacted_part : (floor : ℕ) (s : Records) (q : Record) → contains (compacted_to floor s) q ≡ true → contains s q ≡ true
    compacted_part floor s q is = (least s).is_part q (was_last floor s q is)

    -- of the last records of a list, once each record of it was looked at
    pub all_dropped : (floor : ℕ) (rs : List Record) (old now : Records) → old ≡ last_records (from_list rs)
        → AreDropped floor rs old now → now ≡ compacted_to floor (from_list rs)
    all_dropped floor rs old now is was =
        let s : Records = from_list rs in
        same_set total apart now (compacted_to floor s)
        (λ q. was.left q
        ∙ ap (λ (o : Records). contains o q && not (deletes_below floor q && list_any (eq_by_cmp record_cmp q) rs)) is
        ∙ all_seen (contains (last_records s) q) (deletes_below floor q) (list_any (eq_by_cmp record_cmp q) rs)
        (λ there. sym (contains-from_list total rs q) ∙ (least s).is_part q there)
        ∙ sym (contains-compacted floor s q))

    module _ (greatest : LastIsGreatest) (none : NoLastIsNoRecord) where
      -- each record has a last one of no smaller offset
      pub later_last : (s : Records) (r : Record) → contains s r ≡ true
          → (q : Record) × (contains (last_records s) q ≡ true) × (r.offset ≤ q.offset)
      later_last s r has =
          elim (last s r.key) as (λ o. last s r.key ≡ o → (q : Record) × (contains (last_records s) q ≡ true) × (r.offset ≤ q.offset)) [
            | None ↦ λ is. absurd (none s r has is)
            | Some q ↦ λ is.
                let fact = (greatest s r.key q).0 is in (
                  q,
                  subst (λ (o : Option Record). Rattle.std.specs.Prelude.IfSome o (λ p. contains (last_records s) p ≡ true)) is
                      ((least s).has_lasts r.key),
                  older r q (fact.is_greatest r has refl),
                )
          ] refl

      below_floor : (floor : ℕ) (q : Record) → deletes_below floor q ≡ true → q.offset < floor
      below_floor floor q is = let under = (and_parts (is_none q.value) (nat_lt q.offset floor) is).1 in grind (arith, nat_tests)

      -- one that stays, or it is below the floor
      pub covered : (floor : ℕ) (s : Records) (r : Record) → contains s r ≡ true
          → ((q : Record) × (contains (compacted_to floor s) q ≡ true) × (r.offset ≤ q.offset)) ⊎ (r.offset < floor)
      covered floor s r has =
          let found = later_last s r has in
          elim (deletes_below floor found.0) as (λ b. deletes_below floor found.0 ≡ b
          → ((q : Record) × (contains (compacted_to floor s) q ≡ true) × (r.offset ≤ q.offset)) ⊎ (r.offset < floor)) [
            | true ↦ λ is. inr (omega (arith, found.2, below_floor floor found.0 is))
            | false ↦ λ is. inl (
              found.0,
              contains-compacted floor s found.0
                  ∙ and_from (contains (last_records s) found.0) (not (deletes_below floor found.0)) found.1 (ap not is),
              found.2,
            )
          ] refl
