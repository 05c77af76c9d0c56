use Rattle.std.proofs.Common.{◌≡◌, ◌≤◌, ◌<◌, ◌⊎◌, inl, ◌++◌, List, ℕ, true, length, take, drop, refl, ap, ◌∙◌, arith, rules, length-append}
use Rattle.std.specs.FinSet.{contains, from_list}
use Rattle.reg_journal.specs.Lines.{text_of}
use Rattle.reg_records.specs.Log.{next_of, records_in}
use Rattle.reg_records.specs.declared.record.Record.{Record}
use Rattle.reg_set.specs.LastRecords.{last_records}
use Rattle.reg_set.specs.Records.{Records}
use Rattle.reg_compaction.specs.Fronts.{HasLines}
use Rattle.reg_compaction.proofs.Compacts.{has_set, is_compacted, is_lines, set_has, walked}
use Rattle.reg_compaction.proofs.Drops.{later_last}
use Rattle.reg_compaction.proofs.Fronts.{behind, split_behind, split_front, Say-length}
use Rattle.reg_compaction.proofs.Kept.{Has}
use Rattle.reg_compaction.proofs.Lasts.{lasts_have_one}
use Rattle.reg_compaction.proofs.compacting.compacted.Goals as goal

pub returns : goal.returns
returns c =
    let input : List ℕ = c.args.log.now in
    let b = c.in_ok-waiting.ensures.begun in
    let log = b.log in
    let (lines, s, few, ends) = c.lines_are_logs.ensures.lines input log b.read in
    let (tail, all, plain) = behind input lines log.rest ends in
    let parts : input ≡ text_of (s.front ++ s.others) ++ tail = all ∙ ap (λ (ls : List (List ℕ)). text_of ls ++ tail) s.parts in
    let copied : c.in_ok-to_vec.field-0.items ≡ c.split_at.result.0.now = search rules in
    let front : c.in_ok-to_vec.field-0.items ≡ text_of s.front =
    copied ∙ c.split_at.ensures.front ∙ ap (λ (n : ℕ). take n input) c.floor_len.ensures.len
    ∙ split_front s.front s.others log.floor log.reads tail input s.floor s.say plain parts in
    let back : c.split_at.result.1.now ≡ text_of s.others ++ tail =
    c.split_at.ensures.back ∙ ap (λ (n : ℕ). drop n input) c.floor_len.ensures.len
    ∙ split_behind s.front s.others log.floor log.reads tail input s.floor s.say plain parts in
    let has : HasLines c.split_at.result.1.now s.others log.reads c.in_ok-waiting.field-0.count =
    record { tail = tail; parts = back; say = s.say; counts = b.count } in
    let within : length (text_of lines) ≤ length input = omega (arith, ap length all, length-append (text_of lines) tail) in
    let o = c.records_are_ordered.ensures in
    let greatest = c.last_is_greatest.ensures.greatest in
    let none = c.last_is_greatest.ensures.none in
    let least = c.last_records_are_enough.ensures.least in
    let read = c.lines_are_logs.ensures.read in
    let whole : Records = from_list (records_in log.reads) in
    let one = lasts_have_one o.all o.apart o.keys o.keys_apart whole in
    let part : (q : Record) → contains (last_records whole) q ≡ true → Has log.reads q =
    λ q is. set_has o.all o.apart o.keys o.keys_apart log.reads q ((least whole).is_part q is) in
    let covers : (r : Record) → Has log.reads r
    → ((q : Record) × (contains (last_records whole) q ≡ true) × (r.offset ≤ q.offset)) ⊎ (r.offset < log.floor) =
    λ r has.
    inl (
    later_last o.all o.apart o.keys o.keys_apart least greatest none whole r
    (has_set o.all o.apart o.keys o.keys_apart log.reads r has)) in
    let rises : log.floor ≤ log.floor = omega arith in
    let ahead : log.floor ≤ next_of log.floor log.reads = omega arith in
    let (text, left, is) = walked o.all o.apart o.keys o.keys_apart log.floor log.floor log.reads s.others s.say
    (last_records whole) one part covers rises ahead c.in_ok-waiting.field-0.top _ c.take_lines.new.self
    b.top b.waiting refl refl (c.in_ok-take_lines.ensures s.others log.reads has) in
    let output : List ℕ = c.in_ok-finish.field-0.items in
    let joined : output ≡ text_of s.front ++ text = c.in_ok-finish.ensures ∙ is ∙ ap (λ (t : List ℕ). t ++ text) front in
    record {
      compacted =
          is_compacted o.all o.apart o.keys o.keys_apart log.floor log.floor log.reads s.others s.say
          (last_records whole) one part covers rises ahead read s.front s.floor text output left joined
          input log lines b.read s.parts few within refl refl refl refl;
      lines =
          is_lines o.all o.apart o.keys o.keys_apart log.floor log.floor log.reads s.others s.say
          (last_records whole) one part covers rises ahead read s.front s.floor text output left joined
          (omega (arith, few, ap length s.parts, length-append s.front s.others, Say-length s.others log.reads s.say, left.few));
      fault = search rules;
    }
