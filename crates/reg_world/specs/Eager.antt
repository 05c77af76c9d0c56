-- Taking the records of a log one after the other, as a follower of the topic is usually described.
use Rattle.std.specs.Prelude.{◌≡◌, ℕ, List, true, ◌&&◌, nat_le, Option}
use Rattle.std.specs.Prelude.{option_map, option_and_then, find, fold, bytes_eq, if◌then◌else◌}
use Rattle.std.specs.Option.{option_map_or}
use Rattle.std.specs.Ordering.{eq_by_cmp}
use Rattle.reg_alike.specs.reg_values.Value.{value_of}
use Rattle.reg_alike.specs.reg_records.declared.key.Key.{Key}
use Rattle.reg_alike.specs.reg_records.declared.key.Key.TheVariants as keys
use Rattle.reg_alike.specs.reg_records.declared.record.Record.{Record}
use Rattle.reg_alike.specs.reg_records.declared.value.Value.{Value}
use Rattle.reg_alike.specs.reg_records.declared.value.Value.TheVariants as values
use Rattle.reg_alike.specs.reg_set.LastRecords.{last_records}
use Rattle.reg_alike.specs.reg_floored.Compaction.{IsCompactionOf}
use Rattle.reg_alike.specs.reg_floored.Floored.{Floored}
use Rattle.reg_alike.specs.reg_entries.EntryOrder.{Place, place_cmp, place_of}
use Rattle.reg_alike.specs.reg_entries.Flagged.{with_soft}
use Rattle.reg_alike.specs.reg_entries.declared.entry.Entry.{Entry}
use Rattle.reg_alike.specs.reg_fold.Entries.{entries, own_entry_in}
use Rattle.reg_topic.specs.Topic.{published_by, registry_of, whole_log}
use Rattle.reg_topic.specs.declared.published.Item.{Item}
use Rattle.reg_topic.specs.declared.topic.Topic.{Topic}
use Rattle.reg_world.specs.Runs.{After}
use Rattle.reg_world.specs.State.{State, topic_of}
use Rattle.reg_world.specs.declared.event.Event.{Event}

-- what a record puts at the place of its version: its own entry, soft where its value itself says deleted, and nothing
-- where it has no value that can be read
abbrev pub put_by : Record → Option Entry
put_by r = option_and_then (own_entry_in r.offset) (value_of r)

-- a soft delete with that value flags an entry of its subject, up to the version that it names
abbrev pub flagged_with : Value → Entry → Entry
flagged_with (values.Schema subject version id schema deleted) e = e
flagged_with (values.Config level) e = e
flagged_with (values.Mode mode) e = e
flagged_with (values.DeleteSubject subject greatest) e =
    if bytes_eq e.subject subject && nat_le e.version greatest then with_soft true e else e
flagged_with values.Noop e = e
flagged_with (values.IdMark id) e = e

-- an entry after the record of a soft delete; one without a value flags nothing
abbrev pub flagged_by : Record → Entry → Entry
flagged_by r e = option_map_or (λ value. flagged_with value e) (value_of r) e

-- what stands at a place after a record of that key, where found stood before it: a
-- version's record puts its own, a soft delete flags what stands
abbrev pub after_key : Key → Place → Option Entry → Record → Option Entry
after_key (keys.Schema subject version) place found r = if eq_by_cmp place_cmp place (subject, version) then put_by r else found
after_key (keys.Config scope) place found r = found
after_key (keys.Mode scope) place found r = found
after_key (keys.DeleteSubject subject) place found r = option_map (flagged_by r) found
after_key keys.Noop place found r = found
after_key keys.IdMark place found r = found

-- what stands at a place after some records, one after the other
abbrev pub after_records : Place → Option Entry → List Record → Option Entry
after_records place found rs = fold (λ found r. after_key r.key place found r) found rs

-- the entry of a list that is at a place
abbrev pub standing_at : Place → List Entry → Option Entry
standing_at place es = find (λ e. eq_by_cmp place_cmp place (place_of e)) es

-- what stands at a place after all that some items published, in its order, which is
-- that of the offsets, where the entries of the base stood before
abbrev pub eager_after : Topic → List Item → Place → Option Entry
eager_after base items place = after_records place (standing_at place (entries (registry_of base))) (published_by items)

-- what stands at a place in the log of a world, its records taken one after the other
abbrev pub eager : State → Place → Option Entry
eager w place = eager_after w.base w.items place

-- that is, with its soft flag, the entry of the log there, and of each compaction of the log, at whatever floor
abbrev pub IsFoldedEagerly : State → Type 0
IsFoldedEagerly w = (place : Place) (part : Floored)
    → IsCompactionOf part (whole_log (topic_of w))
    → eager w place ≡ standing_at place (entries (last_records part.records))

abbrev pub EagerFoldingIsRight : Type 0
EagerFoldingIsRight = (events : List Event) (w : State) → After events w → IsFoldedEagerly w
