-- A type as a JSON value writes it, before any name is looked up (Avro 1.11, "Schema Declaration").
use Rattle.std.specs.Prelude.{ℕ, List, [], ◌∷◌, true, false, Option, Some, None, option_map, option_and_then, find, codes, bytes_eq}
use Rattle.std.specs.Option.{option_map_or}
use Rattle.serde_json.specs.Data.{Num, Data, string, array, object, Items, no_items, item, Members, no_members, member}
use Rattle.serde_json.specs.Find.{get, as_str, as_array, as_number}
use Rattle.avro_schema.specs.declared.node.Primitive.{Primitive}
use Rattle.avro_schema.specs.declared.word.TypeWord.{TypeWord}
use Rattle.avro_schema.specs.declared.word.TypeWord.TheVariants.{Record, Enum, Fixed, Array, Map, Error, Other}
use Rattle.avro_schema.specs.Names.{primitive_named}

-- What a named type is written with. A name or aliases that are missing or wrongly
-- formed are None, and so is a namespace that is no string.
pub record Heading : Type 0 where
  pub name : Option (List ℕ)
  pub namespace : Option (List ℕ)
  pub aliases : Option (List (List ℕ))

-- the same of a field, with its default
pub record FieldHeading : Type 0 where
  pub name : Option (List ℕ)
  pub aliases : Option (List (List ℕ))
  pub default : Option Data

-- Symbols, a size or a type that are missing or wrongly formed are None or `ill_formed`; `ill_fields` stands for fields that are.
mutual
  pub data Form : Type 0 where
    plain : Primitive → Form
    by_name : List ℕ → Form
    record_of : Heading → Fields → Form
    enum_of : Heading → Option (List (List ℕ)) → Option Data → Form
    fixed_of : Heading → Option Num → Form
    array_of : Form → Form
    map_of : Form → Form
    union_of : Forms → Form
    ill_formed : Form

  pub data Forms : Type 0 where
    no_forms : Forms
    and_form : Form → Forms → Forms

  pub data Fields : Type 0 where
    no_fields : Fields
    ill_fields : Fields
    and_field : FieldHeading → Form → Fields → Fields

-- ---- members

abbrev pub strings : Items → Option (List (List ℕ))
strings no_items = Some []
strings (item d ds) = option_and_then (λ s. option_map (λ ss. s ∷ ss) (strings ds)) (as_str d)

abbrev pub string_at : List ℕ → Data → Option (List ℕ)
string_at k d = option_and_then as_str (get k d)

abbrev pub strings_in : Data → Option (List (List ℕ))
strings_in d = option_and_then strings (as_array d)

-- none are written where the member is absent
abbrev pub aliases_of : Data → Option (List (List ℕ))
aliases_of d = elim (get (codes "aliases") d) [ None ↦ Some [] | Some e ↦ strings_in e ]

abbrev pub heading_of : Data → Heading
heading_of d = record { name = string_at (codes "name") d; namespace = string_at (codes "namespace") d; aliases = aliases_of d }

abbrev pub field_heading_of : Data → FieldHeading
field_heading_of d = record { name = string_at (codes "name") d; aliases = aliases_of d; default = get (codes "default") d }

-- ---- what a text says

abbrev pub words : List (List ℕ × TypeWord)
words = (codes "record", Record) ∷ (codes "enum", Enum) ∷ (codes "fixed", Fixed) ∷ (codes "array", Array)
    ∷ (codes "map", Map) ∷ (codes "error", Error) ∷ []

-- what the text of an object's `type` says
abbrev pub type_word : List ℕ → TypeWord
type_word s = option_map_or (λ w. w.1) (find (λ w. bytes_eq w.0 s) words) Other

-- a primitive, or else a name that is to be looked up
abbrev pub form_of_name : List ℕ → Form
form_of_name s = elim (primitive_named s) [ None ↦ by_name s | Some p ↦ plain p ]

-- ---- forms

-- an object d whose `type` is the text s, where `type_at` and `fields_at` read the member of a name
abbrev pub object_of_word : TypeWord → List ℕ → Data → (List ℕ → Form) → (List ℕ → Fields) → Form
object_of_word Record s d type_at fields_at = record_of (heading_of d) (fields_at (codes "fields"))
object_of_word Enum s d type_at fields_at = enum_of (heading_of d)
    (option_and_then strings_in (get (codes "symbols") d)) (get (codes "default") d)
object_of_word Fixed s d type_at fields_at = fixed_of (heading_of d) (option_and_then as_number (get (codes "size") d))
object_of_word Array s d type_at fields_at = array_of (type_at (codes "items"))
object_of_word Map s d type_at fields_at = map_of (type_at (codes "values"))
object_of_word Error s d type_at fields_at = ill_formed
object_of_word Other s d type_at fields_at = form_of_name s

-- by what its `type` is: an object or an array there is the type itself
abbrev pub object_of : Option Data → Data → (List ℕ → Form) → (List ℕ → Fields) → Form
object_of (Some (string s)) d type_at fields_at = object_of_word (type_word s) s d type_at fields_at
object_of _ d type_at fields_at = type_at (codes "type")

abbrev mutual
  pub form : Data → Form
  form (string s) = form_of_name s
  form (array ds) = union_of (forms ds)
  form (object ms) = object_of (get (codes "type") (object ms)) (object ms) (λ k. form_at k ms) (λ k. fields_at k ms)
  form _ = ill_formed

  pub forms : Items → Forms
  forms no_items = no_forms
  forms (item d ds) = and_form (form d) (forms ds)

  -- the type that the member k writes
  pub form_at : List ℕ → Members → Form
  form_at k no_members = ill_formed
  form_at k (member l d ms) = elim (bytes_eq k l) [ true ↦ form d | false ↦ form_at k ms ]

  -- the fields that the member k writes
  pub fields_at : List ℕ → Members → Fields
  fields_at k no_members = ill_fields
  fields_at k (member l d ms) = elim (bytes_eq k l) [ true ↦ fields_in d | false ↦ fields_at k ms ]

  pub fields_in : Data → Fields
  fields_in (array ds) = fields_of_items ds
  fields_in _ = ill_fields

  pub fields_of_items : Items → Fields
  fields_of_items no_items = no_fields
  fields_of_items (item d ds) = and_field (field_heading_of d) (type_in d) (fields_of_items ds)

  -- the type that a field writes
  pub type_in : Data → Form
  type_in (object ms) = form_at (codes "type") ms
  type_in _ = ill_formed
