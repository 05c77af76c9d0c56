-- The records of a batch that others wrote.
use Rattle.std.specs.Prelude.{ℕ, List, [], ◌∷◌, Bool, true, false, ◌==◌, if◌then◌else◌}
use Rattle.std.specs.List.{list_any}
use Rattle.reg_records.specs.Log.{is_foreign, offset_in, records_in}
use Rattle.reg_records.specs.declared.record.Read.{Read}
use Rattle.reg_records.specs.declared.record.Record.{Record}

-- the first line has this offset
abbrev pub is_placed : ℕ → List Read → Bool
is_placed next [] = false
is_placed next (read ∷ more) = offset_in read == next

-- the records of lines, where each is one; else none
abbrev pub records_alone : List Read → List Record
records_alone reads = if list_any is_foreign reads then [] else records_in reads

-- the batch that these lines are where this offset is next: their records, where each is one and they begin there; else the empty batch,
-- which no command writes
abbrev pub batch_at : ℕ → List Read → List Record
batch_at next reads = if is_placed next reads then records_alone reads else []

-- the records begin at this offset; a check, which has none, begins anywhere
abbrev pub begins_at : ℕ → List Record → Bool
begins_at next [] = true
begins_at next (r ∷ rs) = r.offset == next
