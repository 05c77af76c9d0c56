use Rattle.std.proofs.Common.{◌≤◌, ◌-◌, ◌*◌, length, vec_len}
use Rattle.avro_resolve.specs.Search.{AgreesWith}
use Rattle.avro_resolve.specs.FieldIndex.{AreFieldIndexes}
use Rattle.avro_resolve.specs.Unions.{AreIndexes}
use Rattle.avro_resolve.proofs.BreadthFirst.{IsSearched}
use Rattle.avro_resolve.proofs.resolving.resolve_by.Given as goal

abbrev pub invariant-heads : goal.invariant-heads
invariant-heads l =
    AgreesWith l.search.seen l.search.entries.items × IsSearched l.r.nodes l.w.nodes l.search.entries.items l.head
    × (l.head ≤ vec_len l.search.entries) × AreIndexes l.r.nodes l.unions.of × AreFieldIndexes l.r.nodes l.field_indexes.of

abbrev pub decreases-heads : goal.decreases-heads
decreases-heads l = length l.r.nodes * length l.w.nodes - l.head
