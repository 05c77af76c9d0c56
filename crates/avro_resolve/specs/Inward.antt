-- Private: what the walk through arrays and maps looks at.
use Rattle.std.specs.Prelude.{Bool, true, false, Option, Some, None}
use Rattle.avro_schema.specs.declared.node.NodeId.{NodeId}
use Rattle.avro_schema.specs.declared.node.Node.{Node}
use Rattle.avro_schema.specs.declared.node.Node.TheVariants as kind

abbrev pub is_union_node : Node → Bool
is_union_node (kind.Union bs) = true
is_union_node _ = false

-- what two arrays or two maps are of
abbrev pub inner_types : Node → Node → Option (NodeId × NodeId)
inner_types (kind.Array i) (kind.Array j) = Some (i, j)
inner_types (kind.Map i) (kind.Map j) = Some (i, j)
inner_types _ _ = None
