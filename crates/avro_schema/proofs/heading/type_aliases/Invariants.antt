use Rattle.std.proofs.Common.{◌≡◌, take, map}
use Rattle.avro_schema.specs.Names.{full_name}
use Rattle.avro_schema.proofs.heading.type_aliases.Given as goal

abbrev pub invariant-loop-alias : goal.invariant-loop-alias
invariant-loop-alias l = l.names.items ≡ map (full_name l.namespace) (take l.alias-index l.aliases)
