-- Which defaults are values of their fields' types (Avro 1.11, "Records").
use Rattle.std.specs.Prelude.{ℕ, ◌^◌, ◌-◌, List, [], ◌∷◌, Bool, true, false, ◌&&◌, ◌||◌, not, pos, negsuc, int_le, Option}
use Rattle.std.specs.Prelude.{Some, None, is_some, option_and_then, find, filter, map, flat_map, slice_get, bytes_eq}
use Rattle.std.specs.List.{list_all}
use Rattle.std.specs.Option.{option_map_or}
use Rattle.serde_json.specs.Data.{Num, Data, null, boolean, number, string, array, object}
use Rattle.serde_json.specs.Data.{Items, no_items, item, Members, no_members, member}
use Rattle.serde_json.specs.Find.{get_member, is_float, as_integer}
use Rattle.avro_schema.specs.declared.node.NodeId.{NodeId}
use Rattle.avro_schema.specs.declared.node.Field.{Field}
use Rattle.avro_schema.specs.declared.node.Primitive.{Primitive}
use Rattle.avro_schema.specs.declared.node.Primitive.TheVariants as simple
use Rattle.avro_schema.specs.declared.node.Node.{Node}
use Rattle.avro_schema.specs.declared.node.Node.TheVariants as kind
use Rattle.avro_schema.specs.Sound.{fields_of_node}

-- ---- whole numbers

-- a whole number of that many bits and a sign
abbrev pub fits_bits : ℕ → Num → Bool
fits_bits bits n = option_map_or (λ z. int_le (negsuc (2 ^ bits - 1)) z && int_le z (pos (2 ^ bits - 1))) (as_integer n) false

-- ---- which JSON values a type takes

-- What a JSON value is, with the tests of what is in it: whether an array's items are defaults of a
-- type, an object's members of a type, or the members of fields' names of the fields.
pub data Shape : Type 0 where
  a_null : Shape
  a_truth_value : Shape
  a_number : Num → Shape
  a_string : Shape
  an_array : (NodeId → Bool) → Shape
  an_object : (NodeId → Bool) → (List Field → Bool) → Shape

abbrev pub primitive_takes : Shape → Primitive → Bool
primitive_takes a_null simple.Null = true
primitive_takes a_truth_value simple.Boolean = true
primitive_takes (a_number n) simple.Int = fits_bits 31 n
primitive_takes (a_number n) simple.Long = fits_bits 63 n
primitive_takes (a_number n) simple.Float = not (is_float n)
primitive_takes (a_number n) simple.Double = not (is_float n)
primitive_takes a_string simple.String = true
primitive_takes a_string simple.Bytes = true
primitive_takes _ _ = false

abbrev pub takes : Option Node → Shape → Bool
takes (Some (kind.Primitive p)) shape = primitive_takes shape p
takes (Some (kind.Array i)) (an_array items_fit) = items_fit i
takes (Some (kind.Map i)) (an_object values_fit fields_fit) = values_fit i
takes (Some (kind.Record n al fs)) (an_object values_fit fields_fit) = fields_fit fs
takes (Some (kind.Enum n al ss d)) a_string = true
takes (Some (kind.Fixed n al size)) a_string = true
takes _ _ = false

-- a union's default is one of its first branch; the empty union takes none
abbrev pub branch_for_default : List Node → Node → Option Node
branch_for_default nodes (kind.Union []) = None
branch_for_default nodes (kind.Union (b ∷ bs)) = slice_get nodes b.index
branch_for_default nodes n = Some n

-- the type that a default is a value of
abbrev pub default_type : List Node → NodeId → Option Node
default_type nodes i = option_and_then (branch_for_default nodes) (slice_get nodes i.index)

-- ---- the fields of a record

abbrev pub field_named : List Field → List ℕ → Option Field
field_named fs s = find (λ f. bytes_eq f.name s) fs

-- each field that the members leave out has a default of its own
abbrev pub absent_have_defaults : Members → List Field → Bool
absent_have_defaults ms fs = list_all (λ f. is_some (get_member f.name ms) || is_some f.default) fs

module _ (nodes : List Node) where
  -- whether a JSON value is a default of the type
  abbrev mutual
    pub default_fits : NodeId → Data → Bool
    default_fits i null = takes (default_type nodes i) a_null
    default_fits i (boolean b) = takes (default_type nodes i) a_truth_value
    default_fits i (number n) = takes (default_type nodes i) (a_number n)
    default_fits i (string s) = takes (default_type nodes i) a_string
    default_fits i (array ds) = takes (default_type nodes i) (an_array (λ j. items_fit j ds))
    default_fits i (object ms) = takes (default_type nodes i)
        (an_object (λ j. values_fit j ms) (λ fs. fields_fit fs ms && absent_have_defaults ms fs))

    pub items_fit : NodeId → Items → Bool
    items_fit i no_items = true
    items_fit i (item d ds) = default_fits i d && items_fit i ds

    pub values_fit : NodeId → Members → Bool
    values_fit i no_members = true
    values_fit i (member k d ms) = default_fits i d && values_fit i ms

    -- the members of fields' names are defaults of the fields; others are ignored
    pub fields_fit : List Field → Members → Bool
    fields_fit fs no_members = true
    fields_fit fs (member k d ms) = elim (field_named fs k) [ None ↦ true | Some f ↦ default_fits f.node d ] && fields_fit fs ms

  abbrev pub has_good_default : Field → Bool
  has_good_default f = elim (f.default) [ None ↦ true | Some d ↦ default_fits f.node d ]

-- the names of the fields whose default is invalid
abbrev pub bad_defaults : List Node → List (List ℕ)
bad_defaults nodes = map (λ f. f.name) (filter (λ f. not (has_good_default nodes f)) (flat_map fields_of_node nodes))
