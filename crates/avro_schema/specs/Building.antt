-- Private: what the builder holds before and after each type that it reads.
use Rattle.std.specs.Prelude.{◌≡◌, ◌<◌, ◌≤◌, ℕ, ◌+◌, List, [], ◌∷◌, ◌++◌, length, Bool, true, false, ◌&&◌, nat_le, Option, Some, None}
use Rattle.std.specs.Prelude.{is_some, option_map, option_and_then, unwrap_or, codes, filter_map, flat_map, map, set, bytes_eq}
use Rattle.std.specs.List.{list_all}
use Rattle.avro_schema.specs.declared.error.SchemaError.{SchemaError}
use Rattle.avro_schema.specs.declared.error.SchemaError.TheVariants as fault
use Rattle.avro_schema.specs.declared.fields.FieldNames.{FieldNames}
use Rattle.avro_schema.specs.declared.heading.TypeNames.{TypeNames}
use Rattle.avro_schema.specs.declared.named_types.OpenType.{OpenType}
use Rattle.avro_schema.specs.declared.defined_names.Namespace.{Namespace}
use Rattle.avro_schema.specs.declared.node.FullName.{FullName}
use Rattle.avro_schema.specs.declared.node.Field.{Field}
use Rattle.avro_schema.specs.declared.node.Node.{Node}
use Rattle.avro_schema.specs.declared.node.Node.TheVariants as node_kind
use Rattle.avro_schema.specs.declared.node.NodeId.{NodeId}
use Rattle.avro_schema.specs.declared.builder.Builder.{Builder}
use Rattle.avro_schema.specs.declared.symbols.Symbols.{Symbols}
use Rattle.serde_json.specs.Data.{Num, Data, Items}
use Rattle.serde_json.specs.Find.{get, as_str, as_array, as_object, as_number, as_u64}
use Rattle.avro_schema.specs.Names.{has_dot, joined, full_text, all_distinct, is_name}
use Rattle.avro_schema.specs.Form.{Heading, FieldHeading, Form, Forms, Fields, record_of, enum_of, fixed_of, array_of}
use Rattle.avro_schema.specs.Form.{map_of, ill_formed, ill_fields, form, fields_of_items, heading_of, strings_in}
use Rattle.avro_schema.specs.Places.{count, forms_count, fields_count, own_namespace, type_name, Place}
use Rattle.avro_schema.specs.Places.{places, places_of_forms, places_of_fields, Definition}
use Rattle.avro_schema.specs.Places.{definitions, defined}
use Rattle.avro_schema.specs.Nodes.{type_aliases, field_at, node_id, branches, field_list, node_at}
use Rattle.avro_schema.specs.Faults.{unless, fits_union, fits_enum, kinds, written_faults, heading_faults, size_faults}
use Rattle.avro_schema.specs.Faults.{field_list_faults, faults_at, field_headings, field_name, is_formed}
use Rattle.avro_schema.specs.Faults.{if_written, are_written}
use Rattle.avro_schema.specs.Schema.{IsRefusalBy}
use Rattle.avro_schema.specs.DefinedNames.{node_named, AreDefined, IsNumbered, KeepsNumbers}
use Rattle.avro_schema.specs.declared.limits.TheConstants.{SCHEMA_NODES_LIMIT}

-- ---- names

-- a full name as a text
abbrev pub full_of : FullName → List ℕ
full_of n = joined n.namespace n.name

pub record HasNames (enclosing : List ℕ) (h : Heading) (r : TypeNames) : Type 0 where
  pub none_stands : written_faults h ≡ []
  pub text : option_map (full_text (own_namespace enclosing h)) h.name ≡ Some (full_of r.name)
  pub name : r.name ≡ type_name enclosing h
  pub last : has_dot r.name.name ≡ false
  pub aliases : r.aliases.items ≡ type_aliases r.name h

-- a number that is given is that of the enclosing namespace, which is the type's own
abbrev pub IsNumberedAs : Namespace → TypeNames → Type 0
IsNumberedAs enclosing r = (i : ℕ) → r.number ≡ Some i → (i ≡ enclosing.number) × (r.name.namespace ≡ enclosing.text)

-- ---- the builder

-- each definition opens before node n
abbrev pub Before : ℕ → List Definition → Type 0
Before n [] = Unit {0}
Before n (d ∷ ds) = (d.node < n) × Before n ds

abbrev pub nodes_of : Builder → List Node
nodes_of r = r.nodes.items

-- how many nodes are open
abbrev pub opened : Builder → ℕ
opened r = length (nodes_of r)

-- the definitions that the builder has met are ds
pub record HasMet (r : Builder) (ds : List Definition) : Type 0 where
  pub names : AreDefined r.names ds
  -- no two names are of one node
  pub apart : (s t : List ℕ) (i : ℕ) → node_named ds s ≡ Some i → node_named ds t ≡ Some i → s ≡ t
  pub before : Before (opened r) ds
  pub small : opened r ≤ SCHEMA_NODES_LIMIT

-- from old to new the types at these places were read, and none of them is at fault
pub record Reads (ds : List Definition) (ps : List Place) (old new : Builder) : Type 0 where
  pub nodes : nodes_of new ≡ nodes_of old ++ filter_map (node_at (ds ++ definitions ps)) ps
  pub met : HasMet new (ds ++ definitions ps)
  pub none_stands : flat_map (faults_at (ds ++ definitions ps)) ps ≡ []

abbrev pub too_many : ℕ → List SchemaError
too_many n = unless (nat_le n SCHEMA_NODES_LIMIT) fault.TooManyNodes

-- the faults of the types at these places, with n nodes after them
abbrev pub faults_in : List Definition → List Place → ℕ → List SchemaError
faults_in ds ps n = too_many n ++ flat_map (faults_at (ds ++ definitions ps)) ps

abbrev pub IsTypeRead : List Definition → List ℕ → Form → Builder → Builder → NodeId → Type 0
IsTypeRead ds ns f old new i = let ps = places ns (opened old) f in Reads ds ps old new
    × (i ≡ node_id (ds ++ definitions ps) ns (opened old) f)

abbrev pub type_faults : List Definition → List ℕ → Form → ℕ → List SchemaError
type_faults ds ns f n = faults_in ds (places ns n f) (n + count f)

abbrev pub AreBranchesRead : List Definition → List ℕ → Forms → Builder → Builder → List NodeId → Type 0
AreBranchesRead ds ns fs old new is =
    let ps = places_of_forms ns (opened old) fs in
    Reads ds ps old new × (is ≡ branches (ds ++ definitions ps) ns (opened old) fs)
    × (fits_union (kinds (ds ++ definitions ps) ns (opened old) fs) ≡ true)

abbrev pub branches_faults : List Definition → List ℕ → Forms → ℕ → List SchemaError
branches_faults ds ns fs n =
    let ps = places_of_forms ns n fs in
    unless (fits_union (kinds (ds ++ definitions ps) ns n fs)) fault.BadUnion ++ faults_in ds ps (n + forms_count fs)

-- each field by itself is as it should be
abbrev pub are_formed : Fields → Bool
are_formed fs = are_written fs && list_all is_formed (field_headings fs)
    && list_all (λ h. if_written (list_all is_name) h.aliases) (field_headings fs)

abbrev pub AreFieldsRead : List Definition → List ℕ → Fields → Builder → Builder → List Field → Type 0
AreFieldsRead ds ns fs old new gs =
    let ps = places_of_fields ns (opened old) fs in
    Reads ds ps old new × (gs ≡ field_list (ds ++ definitions ps) ns (opened old) fs) × (are_formed fs ≡ true)

abbrev pub fields_faults : List Definition → List ℕ → Fields → ℕ → List SchemaError
fields_faults ds ns fs n = field_list_faults fs ++ faults_in ds (places_of_fields ns n fs) (n + fields_count fs)

abbrev pub has_distinct_names : Fields → Bool
has_distinct_names fs = all_distinct bytes_eq (map field_name (field_headings fs))

-- what is wrong with a field's heading
abbrev pub field_faults : FieldHeading → List SchemaError
field_faults h = unless (is_formed h) fault.BadForm ++ unless (if_written (list_all is_name) h.aliases) fault.BadName

abbrev pub IsFieldRead : List Definition → List ℕ → FieldHeading → Form → Builder → Builder → Field → Type 0
IsFieldRead ds ns h f old new g =
    let ps = places ns (opened old) f in
    Reads ds ps old new × (g ≡ field_at h (node_id (ds ++ definitions ps) ns (opened old) f))
    × (is_formed h && if_written (list_all is_name) h.aliases ≡ true)

-- ---- the same whatever was met before; no node is lost, and no number of a namespace

abbrev pub Keeps : Builder → Builder → Type 0
Keeps old new = KeepsNumbers old.names new.names

abbrev pub ReadsType : Builder → Builder → List ℕ → Form → NodeId → Type 0
ReadsType old new ns f i = (opened old ≤ opened new)
    × ((ds : List Definition) → HasMet old ds → IsTypeRead ds ns f old new i) × Keeps old new

abbrev pub RefusesType : Builder → List ℕ → Form → SchemaError → Type 0
RefusesType old ns f e = (ds : List Definition) → HasMet old ds → IsRefusalBy (type_faults ds ns f (opened old)) e

abbrev pub ReadsBranches : Builder → Builder → List ℕ → Forms → List NodeId → Type 0
ReadsBranches old new ns fs is = (opened old ≤ opened new)
    × ((ds : List Definition) → HasMet old ds → AreBranchesRead ds ns fs old new is) × Keeps old new

abbrev pub RefusesBranches : Builder → List ℕ → Forms → SchemaError → Type 0
RefusesBranches old ns fs e = (ds : List Definition) → HasMet old ds → IsRefusalBy (branches_faults ds ns fs (opened old)) e

abbrev pub ReadsFields : Builder → Builder → List ℕ → Fields → List Field → Type 0
ReadsFields old new ns fs gs = (opened old ≤ opened new)
    × ((ds : List Definition) → HasMet old ds → AreFieldsRead ds ns fs old new gs) × Keeps old new

abbrev pub RefusesFields : Builder → List ℕ → Fields → SchemaError → Type 0
RefusesFields old ns fs e = (ds : List Definition) → HasMet old ds → IsRefusalBy (fields_faults ds ns fs (opened old)) e

abbrev pub ReadsField : Builder → Builder → List ℕ → FieldHeading → Form → Field → Type 0
ReadsField old new ns h f g = (opened old ≤ opened new)
    × ((ds : List Definition) → HasMet old ds → IsFieldRead ds ns h f old new g) × Keeps old new

abbrev pub RefusesField : Builder → List ℕ → FieldHeading → Form → SchemaError → Type 0
RefusesField old ns h f e = (ds : List Definition) → HasMet old ds → IsRefusalBy (field_faults h ++ type_faults ds ns f (opened old)) e

-- ---- what an object writes

abbrev pub is_object : Data → Bool
is_object d = is_some (as_object d)

abbrev pub form_or_ill : Option Data → Form
form_or_ill None = ill_formed
form_or_ill (Some d) = form d

-- the type that the member k writes
abbrev pub form_in : List ℕ → Data → Form
form_in k d = form_or_ill (get k d)

abbrev pub fields_or_ill : Option Items → Fields
fields_or_ill None = ill_fields
fields_or_ill (Some ds) = fields_of_items ds

abbrev pub items_at : List ℕ → Data → Option Items
items_at k d = option_and_then as_array (get k d)

abbrev pub number_at : List ℕ → Data → Option Num
number_at k d = option_and_then as_number (get k d)

abbrev pub written_fields : Data → Fields
written_fields d = fields_or_ill (items_at (codes "fields") d)

abbrev pub record_in : Data → Form
record_in d = record_of (heading_of d) (written_fields d)

abbrev pub enum_in : Data → Form
enum_in d = enum_of (heading_of d) (option_and_then strings_in (get (codes "symbols") d)) (get (codes "default") d)

abbrev pub fixed_in : Data → Form
fixed_in d = fixed_of (heading_of d) (number_at (codes "size") d)

abbrev pub array_in : Data → Form
array_in d = array_of (form_in (codes "items") d)

abbrev pub map_in : Data → Form
map_in d = map_of (form_in (codes "values") d)

pub record HasFieldNames (h : FieldHeading) (r : FieldNames) : Type 0 where
  pub fits : is_formed h && if_written (list_all is_name) h.aliases ≡ true
  pub name : h.name ≡ Some r.name
  pub aliases : h.aliases ≡ Some r.aliases.items
  pub default : h.default ≡ r.default

pub record HasSymbols (ss : Option (List (List ℕ))) (d : Option Data) (r : Symbols) : Type 0 where
  pub symbols : ss ≡ Some r.symbols
  pub default : option_and_then as_str d ≡ r.default
  pub fits : fits_enum d r.symbols ≡ true

pub record HasSize (n : Option Num) (bytes : ℕ) : Type 0 where
  pub size : unwrap_or (option_and_then as_u64 n) 0 ≡ bytes
  pub none_stands : size_faults n ≡ []

-- ---- types with a name in two steps

-- the names of an open type
abbrev pub names_of : OpenType → TypeNames
names_of r = record { name = r.name; aliases = r.aliases; number = None }

-- the type of heading h is open in new, its name defined
pub record OpensType (old new : Builder) (ns : List ℕ) (h : Heading) (r : OpenType) : Type 0 where
  pub first : Node
  pub has : HasNames ns h (names_of r)
  pub place : r.index ≡ opened old
  pub opens : nodes_of new ≡ nodes_of old ++ first ∷ []
  pub inside : r.namespace.text ≡ r.name.namespace
  pub numbered : IsNumbered new.names r.namespace
  pub keeps : Keeps old new
  pub met : (ds : List Definition)
      → HasMet old ds
      → HasMet new (ds ++ record { name = full_of r.name; node = r.index } ∷ []) × (defined ds r.index (full_of r.name) ≡ None)

-- what is wrong with a heading, or one node too many
abbrev pub opening_faults : List Definition → List ℕ → Heading → ℕ → List SchemaError
opening_faults ds ns h n = heading_faults ds ns n h ++ too_many (n + 1)

-- an open record is written with the fields gs, of distinct names
pub record ClosesRecord (old new : Builder) (r : OpenType) (gs : List Field) (i : NodeId) : Type 0 where
  pub id : i ≡ record { index = r.index }
  pub distinct : all_distinct bytes_eq (map (λ g. g.name) gs) ≡ true
  pub nodes : nodes_of new ≡ set (nodes_of old) r.index (node_kind.Record r.name r.aliases.items gs)
  pub names : new.names ≡ old.names
