-- A compaction to a floor that has the mark of ids which its log lacks.
use Rattle.std.proofs.Common.{◌≡◌, List, ℕ, Option, Some, Ok, inl, inr, subst}
use Rattle.reg_records.specs.Log.{LogText, log_of, records_in}
use Rattle.reg_records.specs.declared.record.Record.{Record}
use Rattle.reg_compaction.specs.CompactedTo.{IsCompactedTo}
use Rattle.reg_compaction.specs.Marked.{IsFull, IsMarked, IsMarkedCompactionTo, dropped_mark, with_line}
use Rattle.reg_compaction.specs.Sorted.{IsSortedCompaction, IsSortedCompactionTo}

module _ (floor : ℕ) (input output : List ℕ) (log : LogText) (read : log_of input ≡ Ok log) (mark : Record) (plain : List ℕ)
    (is : Some mark ≡ dropped_mark (Some floor) (records_in log.reads)) (compacted : IsCompactedTo floor input plain) where
  pub with_it_to : IsSortedCompaction (with_line plain mark) output → IsMarkedCompactionTo floor input output
  with_it_to ordered = record {
    log = log;
    read = read;
    marked = subst (λ (m : Option Record). IsMarked (IsCompactedTo floor input) (IsSortedCompactionTo floor input) m output) is
        (plain, compacted, inl ordered);
  }

  pub full_to : IsFull plain → IsSortedCompactionTo floor input output → IsMarkedCompactionTo floor input output
  full_to no_line ordered = record {
    log = log;
    read = read;
    marked = subst (λ (m : Option Record). IsMarked (IsCompactedTo floor input) (IsSortedCompactionTo floor input) m output) is
        (plain, compacted, inr (no_line, ordered));
  }
