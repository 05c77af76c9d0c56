-- Private: the entries that records give by themselves, whatever their subjects' soft deletes say. Below, rs are the last records.
use Rattle.std.specs.Prelude.{◌≡◌, Option, option_and_then}
use Rattle.std.specs.FinMap as finmap
use Rattle.reg_values.specs.Value.{value_of}
use Rattle.reg_values.specs.reg_records.declared.key.Key.TheVariants as keys
use Rattle.reg_values.specs.reg_records.declared.record.Record.{Record}
use Rattle.reg_set.specs.LastRecords.{last}
use Rattle.reg_set.specs.Records.{Records}
use Rattle.reg_entries.specs.EntryOrder.{Place, place_cmp}
use Rattle.reg_fold.specs.Entries.{own_entry_in}
use Rattle.reg_entries.specs.declared.entry.Entry.{Entry}

-- the entry that a record gives by itself
unfoldable pub own_entry_of : Record → Option Entry
own_entry_of r = option_and_then (own_entry_in r.offset) (value_of r)

-- the entry at a place is the one that the last record of its key gives by itself
abbrev pub AreOwnEntries : Records → finmap.FinMap place_cmp Entry → Type 0
AreOwnEntries rs m = (p : Place) → finmap.get m p ≡ option_and_then own_entry_of (last rs (keys.Schema p.0 p.1))
