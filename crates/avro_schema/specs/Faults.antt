-- What is wrong with a schema. Each rule is stated with the fault that stands where it is broken.
use Rattle.std.specs.Prelude.{ℕ, ◌+◌, List, [], ◌∷◌, ◌++◌, map, Bool, true, false, ◌&&◌, not, nat_le}
use Rattle.std.specs.Prelude.{if◌then◌else◌, Option, is_some, is_none, unwrap_or, flat_map, bytes_eq}
use Rattle.std.specs.List.{list_any, list_all}
use Rattle.std.specs.Option.{option_map_or}
use denote.Enum.Bare.{sameb}
use Rattle.serde_json.specs.Data.{Num, Data}
use Rattle.serde_json.specs.Find.{as_str, as_u64}
use Rattle.avro_schema.specs.declared.error.SchemaError.{SchemaError}
use Rattle.avro_schema.specs.declared.error.SchemaError.TheVariants as fault
use Rattle.avro_schema.specs.Kinds.{Kind}
use Rattle.avro_schema.specs.Kinds as kind
use Rattle.avro_schema.specs.declared.node.Primitive.{Primitive}
use Rattle.avro_schema.specs.contracts.node.Primitive.{the_type}
use Rattle.avro_schema.specs.Names.{is_name, is_full_name, is_type_name, full_text, all_distinct, has_text}
use Rattle.avro_schema.specs.Form.{Heading, FieldHeading, Form, plain, by_name, record_of, enum_of, array_of, map_of, union_of}
use Rattle.avro_schema.specs.Form.{fixed_of, ill_formed, Forms, no_forms, and_form, Fields, no_fields, ill_fields, and_field}
use Rattle.avro_schema.specs.Places.{count, own_namespace, Place, places, Definition, definitions, defined, defined_by, definition_used}
use Rattle.avro_schema.specs.declared.limits.TheConstants.{SIZE_LIMIT}

abbrev pub unless : Bool → SchemaError → List SchemaError
unless holds e = if holds then [] else e ∷ []

-- a test of what is written, passed where it is missing
abbrev pub if_written : {A : Type 0} → (A → Bool) → Option A → Bool
if_written test o = option_map_or test o true

-- ---- unions (Avro 1.11, "Unions")

-- `==` on primitives
abbrev pub same_primitive : Primitive → Primitive → Bool
same_primitive = sameb the_type

-- the same type without a name, or types of the same full name
abbrev pub same_kind : Kind → Kind → Bool
same_kind (kind.Primitive p) (kind.Primitive q) = same_primitive p q
same_kind kind.Array kind.Array = true
same_kind kind.Map kind.Map = true
same_kind (kind.Named a) (kind.Named b) = bytes_eq a b
same_kind _ _ = false

abbrev pub is_union_kind : Kind → Bool
is_union_kind kind.Union = true
is_union_kind _ = false

-- no member is itself a union, and no two are of one kind
abbrev pub fits_union : List Kind → Bool
fits_union ks = not (list_any is_union_kind ks) && all_distinct same_kind ks

abbrev pub kind_named : Option Definition → Kind
kind_named o = option_map_or (λ d. kind.Named d.name) o kind.Unknown

-- ---- enums and fixed (Avro 1.11, "Enums", "Fixed")

-- the symbols are distinct names, and a default is one of them
abbrev pub fits_enum : Option Data → List (List ℕ) → Bool
fits_enum d ss = list_all is_name ss && all_distinct bytes_eq ss && if_written (λ e. option_map_or (has_text ss) (as_str e) false) d

abbrev pub symbols_faults : Option (List (List ℕ)) → Option Data → List SchemaError
symbols_faults ss d = unless (is_some ss) fault.BadForm ++ unless (if_written (fits_enum d) ss) fault.BadEnum

-- a size is a whole number up to the limit
abbrev pub size_faults : Option Num → List SchemaError
size_faults n = unless (is_some n) fault.BadForm
    ++ unless (if_written (λ m. option_map_or (λ k. nat_le k SIZE_LIMIT) (as_u64 m) false) n) fault.BadFixed

-- ---- records (Avro 1.11, "Records")

abbrev pub field_headings : Fields → List FieldHeading
field_headings (and_field h f fs) = h ∷ field_headings fs
field_headings _ = []

abbrev pub are_written : Fields → Bool
are_written no_fields = true
are_written ill_fields = false
are_written (and_field h f fs) = are_written fs

abbrev pub field_name : FieldHeading → List ℕ
field_name h = unwrap_or h.name []

-- each field has a name and, where it writes aliases, an array of strings
abbrev pub is_formed : FieldHeading → Bool
is_formed h = is_name (field_name h) && is_some h.aliases

abbrev pub fits_fields : Fields → Bool
fits_fields fs = are_written fs && list_all is_formed (field_headings fs) && all_distinct bytes_eq (map field_name (field_headings fs))

abbrev pub field_list_faults : Fields → List SchemaError
field_list_faults fs = unless (fits_fields fs) fault.BadForm
    ++ unless (list_all (λ h. if_written (list_all is_name) h.aliases) (field_headings fs)) fault.BadName

-- ---- types

-- a named type has a name, and its names are names
abbrev pub written_faults : Heading → List SchemaError
written_faults h = unless (is_some h.name && is_some h.aliases) fault.BadForm
    ++ unless (if_written is_type_name h.name && if_written (list_all is_full_name) h.aliases) fault.BadName

module _ (ds : List Definition) where
  abbrev pub kind_in_union : List ℕ → ℕ → Form → Kind
  kind_in_union ns n (plain p) = kind.Primitive p
  kind_in_union ns n (by_name s) = kind_named (definition_used ds n ns s)
  kind_in_union ns n (record_of h fs) = kind_named (defined_by ns n h)
  kind_in_union ns n (enum_of h ss d) = kind_named (defined_by ns n h)
  kind_in_union ns n (fixed_of h s) = kind_named (defined_by ns n h)
  kind_in_union ns n (array_of f) = kind.Array
  kind_in_union ns n (map_of f) = kind.Map
  kind_in_union ns n (union_of fs) = kind.Union
  kind_in_union ns n ill_formed = kind.Unknown

  abbrev pub kinds : List ℕ → ℕ → Forms → List Kind
  kinds ns n no_forms = []
  kinds ns n (and_form f fs) = kind_in_union ns n f ∷ kinds ns (n + count f) fs

  -- nor does a definition of that name open before node n
  abbrev pub heading_faults : List ℕ → ℕ → Heading → List SchemaError
  heading_faults ns n h = written_faults h
      ++ unless (if_written (λ s. is_none (defined ds n (full_text (own_namespace ns h) s))) h.name) fault.Redefined

  -- what is wrong with a type, those inside it apart
  abbrev pub faults_of : List ℕ → ℕ → Form → List SchemaError
  faults_of ns n (plain p) = []
  faults_of ns n (by_name s) = unless (is_some (definition_used ds n ns s)) (fault.Unknown s)
  faults_of ns n (record_of h fs) = heading_faults ns n h ++ field_list_faults fs
  faults_of ns n (enum_of h ss d) = heading_faults ns n h ++ symbols_faults ss d
  faults_of ns n (fixed_of h s) = heading_faults ns n h ++ size_faults s
  faults_of ns n (array_of f) = []
  faults_of ns n (map_of f) = []
  faults_of ns n (union_of fs) = unless (fits_union (kinds ns (n + 1) fs)) fault.BadUnion
  faults_of ns n ill_formed = fault.BadForm ∷ []

  abbrev pub faults_at : Place → List SchemaError
  faults_at p = faults_of p.namespace p.before p.type

-- the faults of a type that is a whole schema
abbrev pub form_faults : Form → List SchemaError
form_faults f = let ps = places [] 0 f in flat_map (faults_at (definitions ps)) ps
