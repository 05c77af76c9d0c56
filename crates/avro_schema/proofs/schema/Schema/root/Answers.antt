use Rattle.std.proofs.Common.{◌<◌, length, arith}
use Rattle.avro_schema.proofs.schema.Schema.root.Goals as goal

pub prove-unreachable-requires : goal.prove-unreachable-requires
prove-unreachable-requires c =
    let rooted : 0 < length c.self.inside.nodes.items = (c.schemas_are_sound.ensures _ _ c.self.invariant.0).has_root in
    omega arith
