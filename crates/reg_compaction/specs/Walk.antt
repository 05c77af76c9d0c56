-- Private: what a walk over the lines of a log keeps.
use Rattle.std.specs.Prelude.{◌≡◌, ℕ, List, [], ◌∷◌, ◌++◌, Bool, false, ◌&&◌, ◌||◌, Option}
use Rattle.std.specs.Prelude.{Some, None, nat_eq, option_map, unwrap_or, if◌then◌else◌}
use Rattle.std.specs.FinSet.{contains}
use Rattle.std.specs.Option.{option_map_or}
use Rattle.reg_journal.specs.Lines.{text_of}
use Rattle.reg_records.specs.Log.{is_foreign, offset_in}
use Rattle.reg_records.specs.declared.record.Read.{Read}
use Rattle.reg_records.specs.declared.record.Read.TheVariants as reads
use Rattle.reg_set.specs.LastRecords.{with_last}
use Rattle.reg_set.specs.Records.{Records}
use Rattle.reg_compaction.specs.declared.walk.Walk.{Walk}

-- whether a line is kept: its record waits for one
abbrev pub is_kept : Records → Read → Bool
is_kept waiting (reads.Record r) = contains waiting r
is_kept waiting (reads.Foreign offset) = false

-- what waits after that line
abbrev pub waiting_after : Records → Read → Records
waiting_after waiting (reads.Record r) = if contains waiting r then with_last waiting r.key None else waiting
waiting_after waiting (reads.Foreign offset) = waiting

-- the lines that are kept, and what they say
abbrev pub kept_lines : Records → List (List ℕ) → List Read → List (List ℕ)
kept_lines waiting [] more = []
kept_lines waiting (line ∷ lines) [] = []
kept_lines waiting (line ∷ lines) (read ∷ more) =
    if is_kept waiting read then line
    ∷ kept_lines (waiting_after waiting read) lines more else kept_lines (waiting_after waiting read) lines more

abbrev pub kept_reads : Records → List Read → List Read
kept_reads waiting [] = []
kept_reads waiting (read ∷ more) = if is_kept waiting read then read
    ∷ kept_reads (waiting_after waiting read) more else kept_reads (waiting_after waiting read) more

-- the line has that offset
abbrev pub is_at : Option ℕ → Read → Bool
is_at top read = option_map_or (nat_eq (offset_in read)) top false

-- whether a line is kept that has that offset
abbrev pub top_after : Option ℕ → Records → List Read → Bool → Bool
top_after top waiting [] before = before
top_after top waiting (read ∷ more) before = top_after top (waiting_after waiting read) more
    (before || (is_kept waiting read && is_at top read))

-- a foreign line that has it, with its LF
abbrev pub carried_after : Option ℕ → List ℕ → Read → Option (List ℕ) → Option (List ℕ)
carried_after top line read carried = if is_foreign read && is_at top read then Some (line ++ 10 ∷ []) else carried

abbrev pub carried_by : Option ℕ → List (List ℕ) → List Read → Option (List ℕ) → Option (List ℕ)
carried_by top [] more carried = carried
carried_by top (line ∷ lines) [] carried = carried
carried_by top (line ∷ lines) (read ∷ more) carried = carried_by top lines more (carried_after top line read carried)

abbrev pub carried_in : Walk → Option (List ℕ)
carried_in walk = option_map (λ v. v.items) walk.carried

-- what it has kept, and the foreign line where no line that was kept has that offset
abbrev pub finished : Walk → List ℕ
finished walk = walk.text.items ++ (if walk.has_top then [] else unwrap_or (carried_in walk) [])

-- one step of a walk, at that line and its LF
pub record Steps (top : Option ℕ) (line : List ℕ) (read : Read) (old new : Walk) : Type 0 where
  pub waiting : new.waiting ≡ waiting_after old.waiting read
  pub text : new.text.items ≡ old.text.items ++ (if is_kept old.waiting read then line ++ 10 ∷ [] else [])
  pub has_top : new.has_top ≡ (old.has_top || (is_kept old.waiting read && is_at top read))
  pub carried : carried_in new ≡ carried_after top line read (carried_in old)

-- what a walk over these lines comes to, from that one
pub record Walks (top : Option ℕ) (lines : List (List ℕ)) (read : List Read) (old new : Walk) : Type 0 where
  pub text : new.text.items ≡ old.text.items ++ text_of (kept_lines old.waiting lines read)
  pub has_top : new.has_top ≡ top_after top old.waiting read old.has_top
  pub carried : carried_in new ≡ carried_by top lines read (carried_in old)
