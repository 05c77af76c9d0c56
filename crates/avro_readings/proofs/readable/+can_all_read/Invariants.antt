-- What is left is read by all the types exactly where all is, so far.
use Rattle.std.proofs.Common.{◌≡◌, true, drop, map}
use Rattle.avro_data.specs.Fits.{items_fit, values_fit}
use Rattle.avro_data.specs.View.{values_view, members_view}
use Rattle.avro_readings.specs.Readable.{lists_pass, place_reads}
use Rattle.avro_readings.proofs.ReadableLaws.{all_items, all_values}
use Rattle.avro_readings.proofs.readable.+can_all_read.Given as goal

abbrev pub invariant-can_read_items-loop-item : goal.invariant-can_read_items-loop-item
invariant-can_read_items-loop-item l = record {
  left : all_items l.r.nodes l.w.nodes l.types.items l.inner (values_view l.item-items)
      ≡ all_items l.r.nodes l.w.nodes l.types.items l.inner (values_view (drop l.item-index l.item-items));
  fit : items_fit l.w.nodes l.inner (values_view (drop l.item-index l.item-items)) ≡ true;
}

abbrev pub invariant-can_read_values-loop-key : goal.invariant-can_read_values-loop-key
invariant-can_read_values-loop-key l = record {
  left : all_values l.r.nodes l.w.nodes l.types.items l.inner (members_view l.members.entries)
      ≡ all_values l.r.nodes l.w.nodes l.types.items l.inner (members_view l._key-iterator);
  fit : values_fit l.w.nodes l.inner (members_view l._key-iterator) ≡ true;
}

abbrev pub invariant-can_read_fields-loop-k : goal.invariant-can_read_fields-loop-k
invariant-can_read_fields-loop-k l =
    lists_pass (place_reads l.r.nodes l.w.nodes l.others (members_view l.members.items)) 0 (map (λ x. x.items) l.asked.items)
    ≡ lists_pass (place_reads l.r.nodes l.w.nodes l.others (members_view l.members.items)) l.k (drop l.k (map (λ x. x.items) l.asked.items))
