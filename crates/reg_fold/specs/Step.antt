-- Private: what one more record does to the last records.
use Rattle.std.specs.Prelude.{◌≡◌, Some, option_and_then}
use Rattle.std.specs.FinMap as finmap
use Rattle.reg_values.specs.reg_records.declared.key.Key.{Key}
use Rattle.reg_values.specs.reg_records.declared.key.Key.TheVariants as keys
use Rattle.reg_values.specs.reg_records.declared.record.Record.{Record}
use Rattle.reg_set.specs.LastRecords.{last}
use Rattle.reg_set.specs.Records.{Records}
use Rattle.reg_fold.specs.Entries.{entry_map, entry_of}
use Rattle.reg_entries.specs.EntryOrder.{Place}

-- the entry at a place is the one that the last record of its key gives
abbrev pub EntriesAreOfLasts : Records → Type 0
EntriesAreOfLasts rs = (p : Place) → finmap.get (entry_map rs) p ≡ option_and_then (entry_of rs) (last rs (keys.Schema p.0 p.1))

-- r is now the last record of its key, and the other keys have theirs
pub record IsStep (before after : Records) (r : Record) : Type 0 where
  pub from_before : EntriesAreOfLasts before
  pub from_after : EntriesAreOfLasts after
  pub newest : last after r.key ≡ Some r
  pub others : (key : Key) → ¬ (r.key ≡ key) → last after key ≡ last before key
