-- Private: pairs of types by their numbers.
use Rattle.std.specs.Prelude.{◌<◌, ℕ, ◌+◌, ◌*◌, List, length}
use Rattle.avro_schema.specs.declared.node.Node.{Node}
use Rattle.avro_resolve.specs.declared.obligations.Pair.{Pair}

-- both are types of their schemas
pub record IsPairOf (r w : List Node) (p : Pair) : Type 0 where
  pub reader : p.reader.index < length r
  pub writer : p.writer.index < length w

abbrev pub number_of : List Node → Pair → ℕ
number_of w p = p.reader.index * length w + p.writer.index
