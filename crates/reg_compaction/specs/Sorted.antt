-- A compaction whose lines stand in the order of their offsets.
use Rattle.std.specs.Prelude.{◌≡◌, ℕ, List, ◌++◌, map}
use Rattle.std.specs.List.Sorted.{IsNonDecreasing, IsPermutation}
use Rattle.std.specs.Result.{result_unwrap_or}
use Rattle.reg_journal.specs.Lines.{text_of}
use Rattle.reg_records.specs.Line.{reading}
use Rattle.reg_records.specs.Log.{offset_in}
use Rattle.reg_records.specs.declared.record.Read.{Read}
use Rattle.reg_records.specs.declared.record.Read.TheVariants as reads
use Rattle.reg_compaction.specs.Compacted.{IsCompacted}
use Rattle.reg_compaction.specs.CompactedTo.{IsCompactedTo}
use Rattle.reg_compaction.specs.declared.sorting.Piece.{Piece}

-- the output is what compacting makes of the input, and the offsets of its lines don't fall, but for a floor's
pub record IsSortedCompaction (input output : List ℕ) : Type 0 where
  pub compacted : IsCompacted input output
  pub sorted : IsNonDecreasing (map offset_in compacted.out.reads)

-- so it is of compacting to a floor
pub record IsSortedCompactionTo (floor : ℕ) (input output : List ℕ) : Type 0 where
  pub compacted : IsCompactedTo floor input output
  pub sorted : IsNonDecreasing (map offset_in compacted.out.reads)

-- Private: what a line says, if it says something
abbrev pub read_of : List ℕ → Read
read_of line = result_unwrap_or (reading line) (reads.Foreign 0)

-- Private: the output is the front, and the lines behind it in the order of their offsets
pub record Reorders (front lines : List (List ℕ)) (output : List ℕ) : Type 0 where
  pub ordered : List (List ℕ)
  pub same : IsPermutation lines ordered
  pub parts : output ≡ text_of (front ++ ordered)
  pub sorted : IsNonDecreasing (map (λ line. offset_in (read_of line)) ordered)

-- Private: the piece's offset is its line's
abbrev pub HasOffset : Piece → Type 0
HasOffset p = p.offset ≡ offset_in (read_of p.line.now)
