use Rattle.std.proofs.Common.{◌≡◌, drop}
use Rattle.std.specs.List.{list_any}
use Rattle.avro_schema.specs.Names.{same_name}
use Rattle.avro_resolve.proofs.names.is_among.Given as goal

-- the names so far are others
abbrev pub invariant-loop-other : goal.invariant-loop-other
invariant-loop-other l = list_any (same_name l.name) l.fn.names ≡ list_any (same_name l.name) (drop l.other-index l.names)
