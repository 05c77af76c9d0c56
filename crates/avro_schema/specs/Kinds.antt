-- What a union may have once (Avro 1.11, "Unions").
use Rattle.std.specs.Prelude.{ℕ, List}
use Rattle.avro_schema.specs.declared.node.Primitive as node

pub data Kind : Type 0 where
  Primitive : node.Primitive → Kind
  Array : Kind
  Map : Kind
  -- a record, an enum or a fixed type of that full name
  Named : List ℕ → Kind
  Union : Kind
  -- a name that names nothing, or no type at all
  Unknown : Kind
