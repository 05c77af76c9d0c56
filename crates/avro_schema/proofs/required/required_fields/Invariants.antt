use Rattle.std.proofs.Common.{◌≡◌, take, map}
use Rattle.avro_schema.specs.Required.{required_of}
use Rattle.avro_schema.proofs.required.required_fields.Given as goal

abbrev pub invariant-loop-node : goal.invariant-loop-node
invariant-loop-node l = l.all.items ≡ map required_of (take l.node-index l.nodes)
