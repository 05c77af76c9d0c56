-- The types that a schema writes, one after another, and the definitions among them (Avro 1.11, "Names").
use Rattle.std.specs.Prelude.{ℕ, ◌+◌, List, [], ◌∷◌, ◌++◌, ◌&&◌, nat_lt, if◌then◌else◌, Option, Some, None}
use Rattle.std.specs.Prelude.{option_map, option_and_then, unwrap_or, find, filter_map, bytes_eq}
use Rattle.std.specs.Option.{option_or}
use Rattle.avro_schema.specs.declared.node.FullName.{FullName}
use Rattle.avro_schema.specs.Names.{has_dot, full_name, full_text, joined}
use Rattle.avro_schema.specs.Form.{Heading, Form, plain, by_name, record_of, enum_of, array_of, map_of}
use Rattle.avro_schema.specs.Form.{union_of, fixed_of, ill_formed, Forms, no_forms, and_form}
use Rattle.avro_schema.specs.Form.{Fields, and_field}

-- ---- nodes are numbered in the order in which they open

-- how many nodes a type writes out: a name that was defined before adds none
abbrev mutual
  pub count : Form → ℕ
  count (plain p) = 1
  count (by_name s) = 0
  count (record_of h fs) = 1 + fields_count fs
  count (enum_of h ss d) = 1
  count (fixed_of h n) = 1
  count (array_of f) = 1 + count f
  count (map_of f) = 1 + count f
  count (union_of fs) = 1 + forms_count fs
  count ill_formed = 0

  pub forms_count : Forms → ℕ
  forms_count no_forms = 0
  forms_count (and_form f fs) = count f + forms_count fs

  pub fields_count : Fields → ℕ
  fields_count (and_field h f fs) = count f + fields_count fs
  fields_count _ = 0

-- ---- the name of a type

-- the namespace that applies to a type's own name: the one that it writes, else that of the nearest enclosing named type
abbrev pub own_namespace : List ℕ → Heading → List ℕ
own_namespace enclosing h = unwrap_or h.namespace enclosing

abbrev pub type_name : List ℕ → Heading → FullName
type_name enclosing h = full_name (own_namespace enclosing h) (unwrap_or h.name [])

-- ---- places

-- a type that is written, the namespace that applies to it, and how many nodes open before it
pub record Place : Type 0 where
  pub type : Form
  pub namespace : List ℕ
  pub before : ℕ

abbrev pub place : List ℕ → ℕ → Form → Place
place ns n f = record { type = f; namespace = ns; before = n }

-- the types that are written inside a type, depth first and from left to right
abbrev mutual
  pub places_in : List ℕ → ℕ → Form → List Place
  places_in ns n (record_of h fs) = places_of_fields (type_name ns h).namespace (n + 1) fs
  places_in ns n (array_of f) = place ns (n + 1) f ∷ places_in ns (n + 1) f
  places_in ns n (map_of f) = place ns (n + 1) f ∷ places_in ns (n + 1) f
  places_in ns n (union_of fs) = places_of_forms ns (n + 1) fs
  places_in ns n _ = []

  pub places_of_forms : List ℕ → ℕ → Forms → List Place
  places_of_forms ns n no_forms = []
  places_of_forms ns n (and_form f fs) = place ns n f ∷ places_in ns n f ++ places_of_forms ns (n + count f) fs

  pub places_of_fields : List ℕ → ℕ → Fields → List Place
  places_of_fields ns n (and_field h f fs) = place ns n f ∷ places_in ns n f ++ places_of_fields ns (n + count f) fs
  places_of_fields ns n _ = []

-- the type itself, and then those inside it
abbrev pub places : List ℕ → ℕ → Form → List Place
places ns n f = place ns n f ∷ places_in ns n f

-- ---- definitions

-- a full name, and the node that opens with it
pub record Definition : Type 0 where
  pub name : List ℕ
  pub node : ℕ

abbrev pub heading_in : Form → Option Heading
heading_in (record_of h fs) = Some h
heading_in (enum_of h ss d) = Some h
heading_in (fixed_of h n) = Some h
heading_in _ = None

abbrev pub defined_by : List ℕ → ℕ → Heading → Option Definition
defined_by ns n h = option_map (λ s. record { name = full_text (own_namespace ns h) s; node = n }) h.name

abbrev pub definitions : List Place → List Definition
definitions ps = filter_map (λ p. option_and_then (defined_by p.namespace p.before) (heading_in p.type)) ps

-- the definition of a full name that opens before node n
abbrev pub defined : List Definition → ℕ → List ℕ → Option Definition
defined ds n s = find (λ d. nat_lt d.node n && bytes_eq d.name s) ds

-- What a use names: a text with a dot is a full name; another is looked for in the namespace that applies, and then in the null namespace.
abbrev pub definition_used : List Definition → ℕ → List ℕ → List ℕ → Option Definition
definition_used ds n ns s = if has_dot s then defined ds n s else option_or (defined ds n (joined ns s)) (defined ds n s)
