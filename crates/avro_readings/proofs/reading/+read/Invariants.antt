-- What was read so far stands before the readings of what is left, and took its room.
use Rattle.std.proofs.Common.{◌≡◌, drop, map, option_map}
use Rattle.avro_data.specs.View.{view, values_view, members_view}
use Rattle.avro_readings.specs.Reads as spec
use Rattle.avro_readings.specs.Room.{values_room, members_room, IsTaken}
use Rattle.avro_readings.specs.Steps.{values_before, members_before, all_fields_read}
use Rattle.avro_readings.proofs.Along.{seen, IsCopied}
use Rattle.avro_readings.proofs.reading.+read.Given as goal

abbrev pub invariant-read_items-loop-item : goal.invariant-read_items-loop-item
invariant-read_items-loop-item l = record {
  read : spec.items_read l.r.nodes l.w.nodes l.pair (values_view l.item-items)
      ≡ option_map (values_before (map view l.done.items))
      (spec.items_read l.r.nodes l.w.nodes l.pair (values_view (drop l.item-index l.item-items)));
  room : IsTaken l.fn.room l.room (values_room (values_view l.done.items));
}

abbrev pub invariant-read_values-loop-key : goal.invariant-read_values-loop-key
invariant-read_values-loop-key l = record {
  copied : IsCopied l.members.entries l.done.entries l.key-iterator;
  read : spec.values_read l.r.nodes l.w.nodes l.pair (members_view l.members.entries)
      ≡ option_map (members_before (map seen l.done.entries)) (spec.values_read l.r.nodes l.w.nodes l.pair (members_view l.key-iterator));
  room : IsTaken l.fn.room l.room (members_room (members_view l.done.entries));
}

abbrev pub invariant-read_fields-loop-field : goal.invariant-read_fields-loop-field
invariant-read_fields-loop-field l = record {
  read : all_fields_read l.r.nodes l.w.nodes (members_view l.members.items) l.others l.fields
      ≡ option_map (members_before (map seen l.done.items))
      (all_fields_read l.r.nodes l.w.nodes (members_view l.members.items) l.others (drop l.field-index l.fields));
  room : IsTaken l.fn.room l.room (members_room (members_view l.done.items));
}
