use Rattle.std.proofs.Common.{◌≡◌, ℕ, List, length, ap, ◌∙◌}
use Rattle.std.specs.FinSet.{from_list}
use Rattle.std.specs.List.{count_by}
use Rattle.reg_compaction.specs.Lacking.{unmarked_id}
use Rattle.reg_fold.specs.reg_records.Log.{is_foreign, records_in}
use Rattle.reg_fold.specs.reg_records.declared.record.Record.{Record}
use Rattle.reg_fold.specs.reg_set.LastRecords.{last_records}
use Rattle.reg_fold.specs.reg_set.Records.{Records}
use Rattle.reg_fold.specs.Entries.{entries}
use Rattle.reg_inspection.specs.Counts.{counts_by, counts_in, due_by, lasts_in}
use Rattle.reg_inspection.specs.Obstacles.{obstacles}
use Rattle.reg_inspection.proofs.inspection.inspection_of.Goals as goal

pub returns : goal.returns
returns c text floor read is foreign =
    let log = c.args.log.now in
    let same = ap (λ (l : List Record). last_records (from_list l)) (c.deref.ensures.value ∙ is.records) in
    let set : c.in_ok-last.last ≡ lasts_in read = c.in_ok-last.ensures.set ∙ same in
    let over : c.in_ok-last.registry ≡ lasts_in read = c.in_ok-last.ensures.registry ∙ same in
    let es = entries (lasts_in read) in
    let named : c.in_ok-unmarked.unmarked ≡ unmarked_id (records_in read) =
    c.in_ok-unmarked.ensures.id ∙ ap unmarked_id (c.deref-3.ensures.value ∙ is.records) in
    record {
      counts = c.in_ok-counts_of.ensures ∙ ap (λ (rs : Records). counts_in log (entries rs)) over
          ∙ ap (λ (l : List Record). counts_by (length l) log.foreign log.floor log.next es) is.records
          ∙ ap (λ (n : ℕ). counts_by (length (records_in read)) n log.floor log.next es) is.foreign
          ∙ ap (λ (f : ℕ). counts_by (length (records_in read)) (count_by is_foreign read) f log.next es) is.floor
          ∙ ap (λ (n : ℕ). counts_by (length (records_in read)) (count_by is_foreign read) floor n es) is.next;
      due = c.mark_due.ensures ∙ ap (λ (n : ℕ). due_by n c.in_ok-last.registry) named ∙ ap (due_by (unmarked_id (records_in read))) over;
      foreign = foreign;
      obstacles = c.in_ok-obstacles_in.ensures ∙ ap (λ (rs : Records). obstacles rs log.next) set ∙ ap (obstacles (lasts_in read)) is.next;
    }
