-- The nodes of a schema: one for each type that is written out (Avro 1.11, "Complex Types").
use Rattle.std.specs.Prelude.{ℕ, ◌+◌, List, [], ◌∷◌, map, Option, Some, None, option_and_then, unwrap_or, filter_map}
use Rattle.std.specs.Option.{option_map_or}
use Rattle.serde_json.specs.Find.{as_str, as_u64}
use Rattle.avro_schema.specs.declared.node.FullName.{FullName}
use Rattle.avro_schema.specs.declared.node.NodeId.{NodeId}
use Rattle.avro_schema.specs.declared.node.Field.{Field}
use Rattle.avro_schema.specs.declared.node.Node.{Node}
use Rattle.avro_schema.specs.declared.node.Node.TheVariants as kind
use Rattle.avro_schema.specs.Names.{full_name}
use Rattle.avro_schema.specs.Form.{Heading, FieldHeading, Form, plain, by_name, record_of, enum_of, array_of, map_of}
use Rattle.avro_schema.specs.Form.{union_of, fixed_of, ill_formed, Forms, no_forms, and_form, Fields, and_field}
use Rattle.avro_schema.specs.Places.{count, type_name, Place, places, Definition, definitions, definition_used}

-- an alias without a dot takes the namespace of its type
abbrev pub type_aliases : FullName → Heading → List FullName
type_aliases n h = map (full_name n.namespace) (unwrap_or h.aliases [])

abbrev pub field_at : FieldHeading → NodeId → Field
field_at h i = record { name = unwrap_or h.name []; aliases = unwrap_or h.aliases []; default = h.default; node = i }

module _ (ds : List Definition) where
  -- The node of a type: a name's is its definition's, and another type's is the next that opens.
  abbrev pub node_id : List ℕ → ℕ → Form → NodeId
  node_id ns n (by_name s) = record { index = option_map_or (λ d. d.node) (definition_used ds n ns s) 0 }
  node_id ns n _ = record { index = n }

  abbrev pub branches : List ℕ → ℕ → Forms → List NodeId
  branches ns n no_forms = []
  branches ns n (and_form f fs) = node_id ns n f ∷ branches ns (n + count f) fs

  abbrev pub field_list : List ℕ → ℕ → Fields → List Field
  field_list ns n (and_field h f fs) = field_at h (node_id ns n f) ∷ field_list ns (n + count f) fs
  field_list ns n _ = []

  abbrev pub node_of : List ℕ → ℕ → Form → Option Node
  node_of ns n (plain p) = Some (kind.Primitive p)
  node_of ns n (by_name s) = None
  node_of ns n (record_of h fs) = let m = type_name ns h in Some (kind.Record m (type_aliases m h) (field_list m.namespace (n + 1) fs))
  node_of ns n (enum_of h ss d) = let m = type_name ns h in Some
      (kind.Enum m (type_aliases m h) (unwrap_or ss []) (option_and_then as_str d))
  node_of ns n (fixed_of h s) = let m = type_name ns h in Some (kind.Fixed m (type_aliases m h) (unwrap_or (option_and_then as_u64 s) 0))
  node_of ns n (array_of f) = Some (kind.Array (node_id ns (n + 1) f))
  node_of ns n (map_of f) = Some (kind.Map (node_id ns (n + 1) f))
  node_of ns n (union_of fs) = Some (kind.Union (branches ns (n + 1) fs))
  node_of ns n ill_formed = None

  abbrev pub node_at : Place → Option Node
  node_at p = node_of p.namespace p.before p.type

-- the nodes of a type that is a whole schema, its root first
abbrev pub nodes : Form → List Node
nodes f = let ps = places [] 0 f in filter_map (node_at (definitions ps)) ps

-- the full name of a node that has one
abbrev pub name_in : Option Node → Option FullName
name_in (Some (kind.Record n al fs)) = Some n
name_in (Some (kind.Enum n al ss d)) = Some n
name_in (Some (kind.Fixed n al size)) = Some n
name_in _ = None
