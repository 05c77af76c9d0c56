-- What those who follow lines have of them.
use Rattle.std.proofs.Common.{◌≡◌, ◌≤◌, ◌||◌, ℕ, Bool, true, false, List, [], ◌∷◌, ◌++◌, Result, IfOk}
use Rattle.std.proofs.Common.{length, take, fold, refl, sym, ap, subst, ◌∙◌, arith, length-append}
use Rattle.std.specs.declared.alloc.AllocError.{AllocError}
use Rattle.std.specs.Cmp.{IsTotalOrder}
use Rattle.std.specs.FinSet.{IsAntisymmetric, contains, contains-empty, contains-from_list}
use Rattle.std.specs.FinSet.{contains-insert, empty, from_list, insert, same_set}
use Rattle.std.specs.List.{list_any}
use Rattle.std.specs.Ordering.{eq_by_cmp}
use mathlib.Core.List.{IsPrefix}
use Rattle.reg_records.specs.Log.{records_in}
use Rattle.reg_records.specs.declared.record.Read.{Read}
use Rattle.reg_records.specs.declared.record.Record.{Record}
use Rattle.reg_set.specs.LastRecords.{last_records}
use Rattle.reg_set.specs.RecordOrder.{record_cmp}
use Rattle.reg_set.specs.Records.{Records}
use Rattle.reg_lookup.specs.Answers.{IsAnswer}
use Rattle.reg_lookup.specs.declared.answered.Answer.{Answer}
use Rattle.reg_lookup.specs.declared.query.Query.{Query}
use Rattle.reg_node.specs.Takes.{taken, takes_of, with_draw}
use Rattle.reg_node.specs.declared.take.Draw.{Draw}
use Rattle.reg_node.specs.declared.take.Draw.TheVariants as draws
use Rattle.reg_desk.specs.FeedDesk.{AsksFeed, Stands}
use Rattle.reg_intake.specs.Intake.{FirstRecordsAreOfFirstLines, records_of_first}
use Rattle.reg_follow.specs.Following.{AnswersAreOfFirstLines, IsOfFirst, draws_of}

length_takes : (records : List Record) → length (takes_of 0 records) ≡ length records
length_takes [] = refl
length_takes (r ∷ records) = omega (arith, length_takes records)

-- a front of takes is the takes of the first records
front_of_takes : (front more : List Draw) (records : List Record)
    → front ++ more ≡ takes_of 0 records → front ≡ takes_of 0 (take (length front) records)
front_of_takes [] more records is = refl
front_of_takes (d ∷ front) more [] is = absurd (cc is)
front_of_takes (d ∷ front) more (r ∷ records) is =
    let first : d ≡ draws.Take (record { read = 0; kept = r }) = cc in
    let others : front ++ more ≡ takes_of 0 records = cc in
    ap (λ (x : Draw). x ∷ front) first
    ∙ ap (λ (l : List Draw). draws.Take (record { read = 0; kept = r }) ∷ l) (front_of_takes front more records others)

moves : (a b c : Bool) → ((a || b) || c) ≡ (b || (a || c))
moves true true c = refl
moves true false c = refl
moves false true c = refl
moves false false c = refl

or_nothing : (a : Bool) → a ≡ (a || false)
or_nothing true = refl
or_nothing false = refl

module _ (order : IsTotalOrder record_cmp) (apart : IsAntisymmetric record_cmp) where
  in_takes : (s : Records) (records : List Record) (r : Record)
      → contains (fold with_draw s (takes_of 0 records)) r ≡ (contains s r || list_any (eq_by_cmp record_cmp r) records)
  in_takes s [] r = or_nothing (contains s r)
  in_takes s (d ∷ records) r =
      in_takes (insert s d) records r
      ∙ ap (λ b. b || list_any (eq_by_cmp record_cmp r) records) (contains-insert order s d r)
      ∙ moves (eq_by_cmp record_cmp r d) (contains s r) (list_any (eq_by_cmp record_cmp r) records)

  taken_records : (records : List Record) → taken (takes_of 0 records) ≡ from_list records
  taken_records records =
      same_set order apart _ _ (λ r.
      in_takes empty records r
      ∙ ap (λ b. b || list_any (eq_by_cmp record_cmp r) records) (contains-empty record_cmp r)
      ∙ sym (contains-from_list order records r))

  module _ (law : FirstRecordsAreOfFirstLines) (read : List Read) (list : List Draw) (is : list ≡ draws_of read) where
    later : (n : ℕ) (front after : List Draw) → IsOfFirst read n front → IsPrefix front after
        → IsPrefix after list → (m : ℕ) × (n ≤ m) × IsOfFirst read m after
    later n front after of_first begins ends =
        let records = records_in read in
        let first : after ≡ takes_of 0 (take (length after) records) = front_of_takes after ends.0 records (ends.1 ∙ is) in
        let below : length (records_of_first n read) ≤ length after =
        omega (arith, length_takes (records_of_first n read), ap length of_first.1, length-append front begins.0, ap length begins.1) in
        let most : length after ≤ length records =
        omega (arith, length-append after ends.0, ap length (ends.1 ∙ is), length_takes records) in
        let found = law read n (length after) of_first.0 below most in
        (found.0, found.1, (found.2, first ∙ ap (takes_of 0) found.3))

    comes_to : (n : ℕ) (front : List Draw) → IsOfFirst read n front → taken front ≡ from_list (records_of_first n read)
    comes_to n front of_first = ap taken of_first.1 ∙ taken_records (records_of_first n read)

    answered : {C : Type 0} (n : ℕ) (before : Stands Draw C) (q : Query) (a : Result Answer AllocError) (after : Stands Draw C)
        → IsOfFirst read n before.front
        → AsksFeed taken (λ (front : List Draw). last_records (taken front)) (λ (front : List Draw). Unit {0}) before q a after
        → IsPrefix after.front list
        → (m : ℕ) × (n ≤ m) × IsOfFirst read m after.front × IfOk a (IsAnswer (last_records (from_list (records_of_first m read))) q)
    answered n before q a after of_first asks ends =
        let found = later n before.front after.front of_first asks.longer ends in (
          found.0,
          found.1,
          found.2,
          subst (λ (rs : Records). IfOk a (IsAnswer (last_records rs) q)) (comes_to found.0 after.front found.2) asks.answered,
        )

    pub answers : {C : Type 0} → AnswersAreOfFirstLines
        (AsksFeed {C = C} taken (λ (front : List Draw). last_records (taken front)) (λ (front : List Draw). Unit {0})) read list
    answers = record { begins = (omega arith, refl); later = later; comes_to = comes_to; answers = answered }
