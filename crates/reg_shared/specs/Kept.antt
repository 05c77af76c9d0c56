-- Private: how what is held is stored.
use Rattle.std.specs.Prelude.{◌≡◌, ◌≤◌, ◌<◌, ℕ, List, [], ◌∷◌, ◌++◌, Bool, true, option_to_list, if◌then◌else◌}
use Rattle.std.specs.FinSet.{contains, from_list, union}
use Rattle.std.specs.List.{AllByRecursion}
use Rattle.reg_records.specs.declared.record.Record.{Record}
use Rattle.reg_set.specs.Compaction.{is_gone}
use Rattle.reg_set.specs.LastRecords.{last, last_records}
use Rattle.reg_set.specs.RecordOrder.{record_cmp}
use Rattle.reg_set.specs.Records.{Records, is_in_order}

-- the last records, and the older ones beside them
abbrev pub kept_of : Records → List Record → Records
kept_of lasts older = union lasts (from_list older)

-- the last records of the batch's keys
abbrev pub lasts_at : Records → List Record → List Record
lasts_at lasts [] = []
lasts_at lasts (r ∷ rs) = option_to_list (last lasts r.key) ++ lasts_at lasts rs

-- whether a record may leave: a last one that deletes its key below the floor, of which none is left, or an older one
abbrev pub may_go : Records → Records → Records → ℕ → Record → Bool
may_go lasts older left floor r = if contains lasts r then is_gone floor left r else contains older r

-- no record stands before one of a smaller offset
abbrev pub IsRising : List Record → Type 0
IsRising [] = Unit {0}
IsRising (r ∷ rs) = AllByRecursion (λ q. r.offset ≤ q.offset) rs × IsRising rs

-- the registry over the kept records, which stand among those by offset, which are in order and below the next offset. Where none was
-- dropped they are all there.
pub record IsShared (registry : Records) (older by_offset : List Record) (next dropped : ℕ) : Type 0 where
  pub of_kept : registry ≡ last_records (kept_of registry older)
  pub among : (r : Record) → contains (kept_of registry older) r ≡ true → contains (from_list {R = record_cmp} by_offset) r ≡ true
  pub all_kept : dropped ≡ 0 → (r : Record) → contains (from_list {R = record_cmp} by_offset) r ≡ true → contains (kept_of registry older) r ≡ true
  pub in_order : is_in_order by_offset ≡ true
  pub below : AllByRecursion (λ r. r.offset < next) by_offset
