-- Private: labels of named types: the types that match a name are found by them.
use Rattle.std.specs.Prelude.{ℕ, List, Bool, true, false, ◌&&◌, ◌||◌, ◌==◌, Option, Some, None, is_none, bytes_eq}
use Rattle.std.specs.List.{list_any}
use Rattle.std.specs.Option.{option_copied, option_eq, option_map_or}
use Rattle.std.specs.declared.cmp.Ordering.{Ordering}
use Rattle.avro_schema.specs.declared.node.FullName.{FullName}
use Rattle.avro_schema.specs.declared.node.Node.{Node}
use Rattle.avro_schema.specs.declared.node.Node.TheVariants as kind
use Rattle.avro_resolve.specs.contracts.labels.LabelOrd.TheImpl as labels
use Rattle.avro_resolve.specs.declared.labels.Heading.{Heading}
use Rattle.avro_resolve.specs.declared.labels.Label.{Label}
use Rattle.avro_resolve.specs.declared.labels.Shape.{Shape}
use Rattle.avro_resolve.specs.declared.labels.Shape.TheVariants as shape

-- the order of labels
abbrev pub label_cmp : Label → Label → Ordering
label_cmp = (labels.ghosts).cmp

abbrev pub same_shape : Shape → Shape → Bool
same_shape shape.Record shape.Record = true
same_shape shape.Enum shape.Enum = true
same_shape (shape.Fixed s) (shape.Fixed t) = s == t
same_shape _ _ = false

-- whether a label is of that shape, name and namespace
abbrev pub is_label : Shape → List ℕ → Option (List ℕ) → Label → Bool
is_label s name namespace l = same_shape s l.shape && (bytes_eq name l.name.now && option_eq bytes_eq namespace (option_copied l.namespace))

-- the shape, name and aliases of a type that has a name
abbrev pub Head : Type 0
Head = Shape × FullName × List FullName

abbrev pub read_heading : Heading → Head
read_heading h = (h.shape, h.name.now, h.aliases.now)

abbrev pub heading_of : Option Node → Option Head
heading_of (Some (kind.Record n al fs)) = Some (shape.Record, n, al)
heading_of (Some (kind.Enum n al ss d)) = Some (shape.Enum, n, al)
heading_of (Some (kind.Fixed n al s)) = Some (shape.Fixed s, n, al)
heading_of _ = None

-- whether a label is the last part of its name, or one of its aliases
abbrev pub has_alias : Head → Label → Bool
has_alias h l = list_any (λ a. is_label h.0 a.name (Some a.namespace) l) h.2

abbrev pub is_labelled : Head → Label → Bool
is_labelled h l = is_label h.0 h.1.name None l || has_alias h l

abbrev pub has_label : Option Node → Label → Bool
has_label o l = option_map_or (λ h. is_labelled h l) (heading_of o) false

abbrev pub is_unnamed : Option Node → Bool
is_unnamed o = is_none (heading_of o)
