-- Private: what compacting makes of the bytes of a journal's file.
use Rattle.std.specs.Prelude.{◌≡◌, ⊤, ℕ, ◌+◌, List, [], ◌∷◌, ◌++◌, length, take, count_by, Option, Err}
use Rattle.reg_records.specs.Line.{is_line_feed}
use Rattle.reg_records.specs.Log.{log_of}
use Rattle.reg_records.specs.declared.log.LogFault.{LogFault}
use Rattle.reg_compaction.specs.Compacted.{IsLines}
use Rattle.reg_compaction.specs.CompactedTo.{IsCompactedBy}
use Rattle.reg_compaction.specs.declared.in_place.JournalCompactError.{JournalCompactError}
use Rattle.reg_compaction.specs.declared.in_place.JournalCompactError.TheVariants.{OutOfMemory, Failed, Unread, Changed, Lost, Broken}
use Rattle.reg_compaction.specs.declared.shrinking.Shrunk.{Shrunk}

-- a compaction of what stands before `end`, and an empty line
pub record ShrinksTo (floor : Option ℕ) (file : List ℕ) (end : ℕ) (shrunk : Shrunk) : Type 0 where
  pub text : List ℕ
  pub compacted : IsCompactedBy floor (take end file) text
  pub is_lines : IsLines text
  pub bytes : shrunk.bytes.items ≡ text ++ 10 ∷ []
  pub kept : shrunk.kept ≡ count_by is_line_feed text

-- a file of the length that was left has a fault then, or there is another reason
abbrev pub IsNoShrinking : List ℕ → ℕ → JournalCompactError → Type 0
IsNoShrinking file end Changed = length file ≡ end + 1 → (number : ℕ) × (fault : LogFault) × (log_of (take end file) ≡ Err (number, fault))
IsNoShrinking file end OutOfMemory = ⊤
IsNoShrinking file end Failed = ⊤
IsNoShrinking file end Unread = ⊤
IsNoShrinking file end Lost = ⊥
IsNoShrinking file end Broken = ⊥
