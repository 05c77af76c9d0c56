-- What a walk over a log that is to have a floor leaves.
use Rattle.std.proofs.Common.{◌≡◌, ◌≤◌, ◌<◌, ◌⊎◌, ℕ, true, false, cond, List, [], ◌∷◌, ◌++◌, length}
use Rattle.std.proofs.Common.{drop, Option, None, Ok, refl, ap, ◌∙◌, arith, count_by, length-append}
use Rattle.std.proofs.lemmas.Bool.Decides.{nat_tests}
use Rattle.std.specs.Cmp.{IsTotalOrder}
use Rattle.std.specs.FinSet.{IsAntisymmetric, contains, from_list, same_set}
use Rattle.std.specs.Prelude.{nat_eq}
use Rattle.reg_journal.specs.Lines.{LinesAreRead, LogsAreLines, SayLog, SaysFloor, text_of}
use Rattle.reg_floored.specs.Floors.{compacted_to}
use Rattle.reg_records.specs.Floor.{floor_text}
use Rattle.reg_records.specs.Line.{is_line_feed}
use Rattle.reg_records.specs.Log.{LogText, log_of, next_of, records_in}
use Rattle.reg_records.specs.declared.limits.TheConstants.{LOG_LINES, OFFSET_LIMIT}
use Rattle.reg_records.specs.declared.record.Record.{Record}
use Rattle.reg_set.specs.Join.{LastIsGreatest, LastRecordsKeepLasts, NoLastIsNoRecord}
use Rattle.reg_set.specs.RecordOrder.{key_cmp, record_cmp}
use Rattle.reg_set.specs.Records.{Records}
use Rattle.reg_records.specs.declared.record.Read.{Read}
use Rattle.reg_compaction.specs.Begun.{BeginsTo, before}
use Rattle.reg_compaction.specs.Compacted.{IsLines}
use Rattle.reg_compaction.specs.CompactedTo.{HasNoRoom, IsCompactedTo, floor_lines}
use Rattle.reg_compaction.specs.Fronts.{HasLines, floor_len}
use Rattle.reg_compaction.specs.Walk.{Walks, carried_in, finished}
use Rattle.reg_compaction.specs.declared.compacting.Begun.{Begun}
use Rattle.reg_compaction.specs.declared.walk.Walk.{Walk}
use Rattle.reg_compaction.proofs.Compacts.{both_ways, counted, has_set, is_compacted_to, is_lines, set_has, walked}
use Rattle.reg_compaction.proofs.Drops.{compacted_have_one, compacted_part, covered}
use Rattle.reg_compaction.proofs.Fronts.{Say-length, behind, split_behind, text_of-append}
use Rattle.reg_compaction.proofs.Kept.{Has}

-- the line of a floor says it, where it has one
says_floor : (floor : ℕ) → floor ≤ OFFSET_LIMIT → SaysFloor (floor_lines floor) floor
says_floor floor low =
    elim (nat_eq floor 0) as (λ b. nat_eq floor 0 ≡ b → SaysFloor (cond b [] (floor_text floor ∷ [])) floor) [
      | true ↦ λ is. let none : floor ≡ 0 = grind (arith, nat_tests) in none
      | false ↦ λ is. (refl, low)
    ] refl

one_line : (floor : ℕ) → length (floor_lines floor) ≤ 1
one_line floor =
    elim (nat_eq floor 0) as (λ b. length (cond b [] (floor_text floor ∷ [])) ≤ 1) [
      | true ↦ omega arith
      | false ↦ omega arith
    ]

has_line : (floor : ℕ) → 0 < length (floor_lines floor) → 0 < floor
has_line floor some =
    elim (nat_eq floor 0) as (λ b. nat_eq floor 0 ≡ b → 0 < length (cond b [] (floor_text floor ∷ [])) → 0 < floor) [
      | true ↦ λ is none. absurd (omega (arith, none))
      | false ↦ λ is some. grind (arith, nat_tests)
    ] refl some

-- a text that is a compaction of the log to the floor, unless it has too many lines
pub record Comes (floor : ℕ) (input output : List ℕ) : Type 0 where
  pub compacted : count_by is_line_feed output ≤ LOG_LINES → IsCompactedTo floor input output
  pub lines : count_by is_line_feed output ≤ LOG_LINES → IsLines output
  pub no_room : LOG_LINES < count_by is_line_feed output → HasNoRoom input floor

module _ (total : IsTotalOrder record_cmp) (apart : IsAntisymmetric record_cmp)
    (keys : IsTotalOrder key_cmp) (keys_apart : IsAntisymmetric key_cmp)
    (least : LastRecordsKeepLasts) (greatest : LastIsGreatest) (none : NoLastIsNoRecord) (are_read : LinesAreRead)
    (floor : ℕ) (low : floor ≤ OFFSET_LIMIT) (input : List ℕ) (log : LogText) (is : log_of input ≡ Ok log)
    (rises : log.floor ≤ floor) (ahead : floor ≤ next_of log.floor log.reads)
    (lines : List (List ℕ)) (s : SayLog lines log.floor log.reads)
    (few : length lines ≤ LOG_LINES) (within : length (text_of s.others) ≤ length input) where
  abbrev whole : Records
  whole = from_list (records_in log.reads)

  abbrev waiting : Records
  waiting = compacted_to floor whole

  part : (q : Record) → contains waiting q ≡ true → Has log.reads q
  part q there = set_has total apart keys keys_apart log.reads q (compacted_part total apart keys keys_apart least floor whole q there)

  covers : (r : Record) → Has log.reads r → ((q : Record) × (contains waiting q ≡ true) × (r.offset ≤ q.offset)) ⊎ (r.offset < floor)
  covers r has = covered total apart keys keys_apart least greatest none floor whole r (has_set total apart keys keys_apart log.reads r has)

  -- where each line is kept, no record goes
  same : ((q : Record) → Has log.reads q → contains waiting q ≡ true) → waiting ≡ whole
  same all =
      same_set total apart waiting whole
      (λ q. both_ways _ _
      (λ there. compacted_part total apart keys keys_apart least floor whole q there)
      (λ there. all q (set_has total apart keys keys_apart log.reads q there)))

  comes : (top : Option ℕ) (old new : Walk) (output : List ℕ) → top ≡ before (next_of log.floor log.reads)
      → old.waiting ≡ waiting → old.has_top ≡ false → carried_in old ≡ None
      → old.text.items ≡ text_of (floor_lines floor) → Walks top s.others log.reads old new
      → output ≡ finished new → Comes floor input output
  comes top old new output at waits no_top no_line front walks done =
      let one = compacted_have_one total apart keys keys_apart floor whole in
      let (text, left, ends) = walked total apart keys keys_apart log.floor floor log.reads s.others
      s.say waiting one part covers rises ahead top old new at waits no_top no_line walks in
      let joined : output ≡ text_of (floor_lines floor) ++ text = done ∙ ends ∙ ap (λ (t : List ℕ). t ++ text) front in
      let says = says_floor floor low in
      let count = counted total apart keys keys_apart log.floor floor log.reads s.others s.say waiting one part covers rises ahead are_read
      (floor_lines floor) says text output left joined in
      let most : length log.reads ≤ LOG_LINES =
      omega (arith, few, ap length s.parts, length-append s.front s.others, Say-length s.others log.reads s.say) in
      record {
        compacted =
            λ fits.
            is_compacted_to total apart keys keys_apart log.floor floor log.reads s.others s.say waiting
            one part covers rises ahead are_read (floor_lines floor) says text output left joined
            input log is (omega (arith, count, fits)) within refl refl refl refl;
        lines =
            λ fits.
            is_lines total apart keys keys_apart log.floor floor log.reads s.others s.say waiting one part covers rises ahead are_read
            (floor_lines floor) says text output left joined
            (omega (arith, count, fits));
        no_room = λ many. record {
          log = log;
          read = is;
          rises = rises;
          within = ahead;
          has_line = has_line floor (omega (arith, count, many, left.few, most));
          full = omega (arith, count, many, left.few, most, one_line floor);
          stay = same (left.all (omega (arith, count, many, left.few, most, one_line floor)));
        };
      }

-- so of the text that is read, whose lines stand behind its own floor's
module _ (total : IsTotalOrder record_cmp) (apart : IsAntisymmetric record_cmp)
    (keys : IsTotalOrder key_cmp) (keys_apart : IsAntisymmetric key_cmp)
    (least : LastRecordsKeepLasts) (greatest : LastIsGreatest)
    (none : NoLastIsNoRecord) (are_read : LinesAreRead) (are_lines : LogsAreLines)
    (floor : ℕ) (low : floor ≤ OFFSET_LIMIT) (input : List ℕ) (begun : Begun) (b : BeginsTo floor input begun) where
  pub ends_as : (back : List ℕ) (old new : Walk) (output : List ℕ) → back ≡ drop (floor_len input) input
      → old.waiting ≡ begun.waiting → old.has_top ≡ false → carried_in old ≡ None
      → old.text.items ≡ text_of (floor_lines floor)
      → ((lines : List (List ℕ)) (read : List Read) → HasLines back lines read begun.count → Walks begun.top lines read old new)
      → output ≡ finished new → Comes floor input output
  ends_as back old new output is waits no_top no_line front walks done =
      let log = b.log in
      let (lines, s, few, ends) = are_lines input log b.read in
      let (tail, all, plain) = behind input lines log.rest ends in
      let parts : input ≡ text_of (s.front ++ s.others) ++ tail = all ∙ ap (λ (ls : List (List ℕ)). text_of ls ++ tail) s.parts in
      let others : back ≡ text_of s.others ++ tail =
      is ∙ split_behind s.front s.others log.floor log.reads tail input s.floor s.say plain parts in
      let has : HasLines back s.others log.reads begun.count = record { tail = tail; parts = others; say = s.say; counts = b.count } in
      let within : length (text_of s.others) ≤ length input =
      omega (
        arith,
        ap length parts,
        length-append (text_of (s.front ++ s.others)) tail,
        ap length (text_of-append s.front s.others),
        length-append (text_of s.front) (text_of s.others),
      ) in
      comes total apart keys keys_apart least greatest none are_read floor low input log b.read b.rises b.within lines s few within
      begun.top old new output b.top (waits ∙ b.waiting) no_top no_line front (walks s.others log.reads has) done
