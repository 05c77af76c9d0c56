use Rattle.std.proofs.Common.{◌<◌, ◌-◌, ◌*◌, length}
use Rattle.avro_resolve.specs.Worklist.{IsOrderly}
use Rattle.avro_resolve.specs.FieldIndex.{AreFieldIndexes}
use Rattle.avro_resolve.specs.Unions.{AreIndexes}
use Rattle.avro_resolve.proofs.AnyClash.{AreLookedUp}
use Rattle.avro_resolve.proofs.any_clash.look_up_all.Given as goal

abbrev pub invariant-pairs : goal.invariant-pairs
invariant-pairs l = record {
  looked : AreLookedUp l.r.nodes l.w.nodes l.worklist l.pairs;
  orderly : IsOrderly l.worklist;
  room : length l.r.nodes * length l.w.nodes < 64 * length l.worklist.met.words.items;
  unions : AreIndexes l.r.nodes l.unions.of;
  field_indexes : AreFieldIndexes l.r.nodes l.field_indexes.of;
}

abbrev pub decreases-pairs : goal.decreases-pairs
decreases-pairs l = length l.r.nodes * length l.w.nodes - l.pairs
