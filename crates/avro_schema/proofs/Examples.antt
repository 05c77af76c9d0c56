-- Worked schemas: what their texts mean.
use Rattle.std.proofs.Common.{◌≡◌, ℕ, List, [], ◌∷◌, length, Option, Some, None, option_map, codes, refl}
use Rattle.std.specs.Fmt.{digits}
use Rattle.serde_json.proofs.OnLiterals.{serde_json_on_literals}
use Rattle.avro_schema.specs.declared.node.Node.{Node}
use Rattle.avro_schema.specs.declared.node.Node.TheVariants as kind
use Rattle.avro_schema.specs.declared.node.Primitive.TheVariants as simple
use Rattle.avro_schema.specs.declared.error.SchemaError.TheVariants as fault
use Rattle.avro_schema.specs.Schema.{schema_of, faults}
use Rattle.avro_schema.specs.Defaults.{bad_defaults}

abbrev nodes_of : List ℕ → Option (List Node)
nodes_of text = option_map (λ m. m.nodes) (schema_of text)

abbrev normal_text_of : List ℕ → Option (List ℕ)
normal_text_of text = option_map (λ m. m.normal_text) (schema_of text)

abbrev bad_defaults_of : List ℕ → Option (List (List ℕ))
bad_defaults_of text = option_map bad_defaults (nodes_of text)

-- a record that leads back to itself has four nodes
pub linked : nodes_of (codes "{\"type\":\"record\",\"name\":\"Node\",\"fields\":[{\"name\":\"v\",\"type\":\"int\"},{\"name\":\"next\",\"type\":[\"null\",\"Node\"]}]}")
    ≡ Some (kind.Record (record { namespace = []; name = codes "Node" }) []
    (record { name = codes "v"; aliases = []; default = None; node = record { index = 1 } }
    ∷ record { name = codes "next"; aliases = []; default = None; node = record { index = 2 } } ∷ [])
    ∷ kind.Primitive simple.Int ∷ kind.Union (record { index = 3 } ∷ record { index = 0 } ∷ []) ∷ kind.Primitive simple.Null ∷ [])
unfolding serde_json_on_literals
linked = refl

-- a record that leads back to itself alone has one node, and its namespace applies inside it
pub self_reference : nodes_of (
    codes "{\"type\":\"record\",\"name\":\"R\",\"namespace\":\"n\",\"fields\":[{\"name\":\"f\",\"type\":\"R\"}]}")
    ≡ Some (
    kind.Record (record { namespace = codes "n"; name = codes "R" }) []
    (record { name = codes "f"; aliases = []; default = None; node = record { index = 0 } } ∷ [])
    ∷ [])
unfolding serde_json_on_literals
self_reference = refl

-- a name without a dot is found in the null namespace where the enclosing one has none
pub null_namespace : option_map length (nodes_of (codes "{\"type\":\"record\",\"name\":\"R\",\"fields\":[{\"name\":\"a\",\"type\":{\"type\":\"record\",\"name\":\"n.S\",\"fields\":[{\"name\":\"r\",\"type\":\"R\"}]}}]}")) ≡ Some 2
unfolding serde_json_on_literals
null_namespace = refl

pub unknown : faults (codes "{\"type\":\"array\",\"items\":\"X\"}") ≡ fault.Unknown (codes "X") ∷ []
unfolding serde_json_on_literals
unknown = refl

pub float : faults (codes "{\"type\":\"int\",\"x\":1.5}") ≡ fault.FloatNumber ∷ []
unfolding serde_json_on_literals
float = refl

pub normal : normal_text_of (codes "{ \"name\":\"R\", \"fields\":[ ], \"type\":\"record\" }")
    ≡ Some (codes "{\"fields\":[],\"name\":\"R\",\"type\":\"record\"}")
unfolding serde_json_on_literals
normal = refl

pub several : faults (codes "[\"int\",\"int\",{\"type\":\"enum\",\"name\":\"string\",\"symbols\":[\"A\",\"A\"]},{\"type\":\"fixed\",\"name\":\"F\",\"size\":-1},{\"type\":\"fixed\",\"name\":\"F\",\"size\":1},{}]")
    ≡ fault.BadUnion ∷ fault.BadName ∷ fault.BadEnum ∷ fault.BadFixed ∷ fault.Redefined ∷ fault.BadForm ∷ []
unfolding serde_json_on_literals
several = refl

-- an object whose type is a name, an object or an array adds no node
pub wrapped : option_map length (nodes_of (codes "{\"type\":{\"type\":[{\"type\":\"int\"}]}}")) ≡ Some 2
unfolding serde_json_on_literals
wrapped = refl

-- a name is used before it is defined
pub too_early : faults (codes "[\"E\",{\"type\":\"enum\",\"name\":\"E\",\"symbols\":[]}]") ≡ fault.Unknown (codes "E") ∷ []
unfolding serde_json_on_literals
too_early = refl

pub not_json : faults (codes "x") ≡ fault.NotJson ∷ []
unfolding serde_json_on_literals
not_json = refl

pub good_default : bad_defaults_of ((codes "{\"type\":\"record\",\"name\":\"R\",\"fields\":[{\"name\":\"x\",\"type\":\"float\",\"default\":0},{\"name\":\"r\",\"type\":[\"R\",\"null\"],\"default\":{\"x\":-7}}]}")) ≡ Some []
unfolding serde_json_on_literals digits
good_default = refl

pub bad_default : bad_defaults_of ((codes "{\"type\":\"record\",\"name\":\"R\",\"fields\":[{\"name\":\"x\",\"type\":\"boolean\",\"default\":0},{\"name\":\"y\",\"type\":[\"null\",\"int\"],\"default\":0}]}"))
    ≡ Some (codes "x" ∷ codes "y" ∷ [])
unfolding serde_json_on_literals digits
bad_default = refl

-- a use that begins with a dot names nothing
pub dot_first : faults (codes "[{\"type\":\"enum\",\"name\":\"E\",\"symbols\":[]},{\"type\":\"array\",\"items\":\".E\"}]")
    ≡ fault.Unknown (codes ".E") ∷ []
unfolding serde_json_on_literals
dot_first = refl

-- ---- unions

pub empty_union : nodes_of (codes "[]") ≡ Some (kind.Union [] ∷ [])
unfolding serde_json_on_literals
empty_union = refl

pub two_arrays : faults (codes "[{\"type\":\"array\",\"items\":\"int\"},{\"type\":\"array\",\"items\":\"long\"}]") ≡ fault.BadUnion ∷ []
unfolding serde_json_on_literals
two_arrays = refl

-- a union in a union, also behind an object
pub nested_union : faults (codes "[{\"type\":[\"int\"]}]") ≡ fault.BadUnion ∷ []
unfolding serde_json_on_literals
nested_union = refl

-- two records of one full name
pub two_records : faults (codes "[{\"type\":\"record\",\"name\":\"R\",\"fields\":[]},{\"type\":\"record\",\"name\":\"R\",\"fields\":[]}]")
    ≡ fault.BadUnion ∷ fault.Redefined ∷ []
unfolding serde_json_on_literals
two_records = refl

-- two members of one full name: the second is a use of the first
pub one_full_name : faults (codes "[{\"type\":\"fixed\",\"name\":\"a.F\",\"size\":1},\"a.F\"]") ≡ fault.BadUnion ∷ []
unfolding serde_json_on_literals
one_full_name = refl

-- two records that share the last part alone are two members
pub one_last_part : option_map length (
    nodes_of (codes "[{\"type\":\"record\",\"name\":\"a.R\",\"fields\":[]},{\"type\":\"record\",\"name\":\"b.R\",\"fields\":[]}]"))
    ≡ Some 3
unfolding serde_json_on_literals
one_last_part = refl

-- a record named `array` is no array
pub named_array : option_map length (
    nodes_of (codes "[{\"type\":\"array\",\"items\":\"int\"},{\"type\":\"record\",\"name\":\"array\",\"fields\":[]}]"))
    ≡ Some 4
unfolding serde_json_on_literals
named_array = refl

-- ---- names

-- an alias without a dot takes the namespace of its type, and one with a dot is a full name
pub aliases : nodes_of (codes "{\"type\":\"fixed\",\"name\":\"n.F\",\"aliases\":[\"G\",\"m.H\"],\"size\":2}")
    ≡ Some (
    kind.Fixed (record { namespace = codes "n"; name = codes "F" })
    (record { namespace = codes "n"; name = codes "G" } ∷ record { namespace = codes "m"; name = codes "H" } ∷ []) 2
    ∷ [])
unfolding serde_json_on_literals
aliases = refl

-- a namespace that is no string applies to nothing
pub odd_namespace : nodes_of (codes "{\"type\":\"fixed\",\"name\":\"F\",\"namespace\":7,\"size\":0}")
    ≡ Some (kind.Fixed (record { namespace = []; name = codes "F" }) [] 0 ∷ [])
unfolding serde_json_on_literals
odd_namespace = refl

-- a name with dots is a full name, whatever `namespace` says
pub dots_and_namespace : nodes_of (codes "{\"type\":\"enum\",\"name\":\"a.b.E\",\"namespace\":\"n\",\"symbols\":[\"A\"],\"default\":\"A\"}")
    ≡ Some (kind.Enum (record { namespace = codes "a.b"; name = codes "E" }) [] (codes "A" ∷ []) (Some (codes "A")) ∷ [])
unfolding serde_json_on_literals
dots_and_namespace = refl

-- one full name, written in two ways
pub redefined : faults (codes "[{\"type\":\"fixed\",\"name\":\"n.F\",\"size\":1},{\"type\":\"array\",\"items\":{\"type\":\"fixed\",\"name\":\"F\",\"namespace\":\"n\",\"size\":1}}]")
    ≡ fault.Redefined ∷ []
unfolding serde_json_on_literals
redefined = refl

-- a type named `.R` is no type named `R`
pub dotted_twice : faults (codes "[{\"type\":\"fixed\",\"name\":\".R\",\"size\":1},{\"type\":\"fixed\",\"name\":\"R\",\"size\":1}]")
    ≡ fault.BadName ∷ []
unfolding serde_json_on_literals
dotted_twice = refl

-- a definition that lacks a member is one all the same
pub lacking_definition : faults (codes "[{\"type\":\"fixed\",\"name\":\"F\"},{\"type\":\"array\",\"items\":\"F\"}]") ≡ fault.BadForm ∷ []
unfolding serde_json_on_literals
lacking_definition = refl

-- and so is one inside a field that lacks its name
pub lacking_field : faults (codes "{\"type\":\"record\",\"name\":\"R\",\"fields\":[{\"type\":{\"type\":\"fixed\",\"name\":\"F\",\"size\":1}},{\"name\":\"f\",\"type\":\"F\"}]}")
    ≡ fault.BadForm ∷ []
unfolding serde_json_on_literals
lacking_field = refl

-- ---- members

pub error_record : faults (codes "{\"type\":\"error\",\"name\":\"E\",\"fields\":[]}") ≡ fault.BadForm ∷ []
unfolding serde_json_on_literals
error_record = refl

pub text_size : faults (codes "{\"type\":\"fixed\",\"name\":\"F\",\"size\":\"4\"}") ≡ fault.BadForm ∷ []
unfolding serde_json_on_literals
text_size = refl

pub great_size : faults (codes "{\"type\":\"fixed\",\"name\":\"F\",\"size\":2147483648}") ≡ fault.BadFixed ∷ []
unfolding serde_json_on_literals
great_size = refl

pub other_default : faults (codes "{\"type\":\"enum\",\"name\":\"E\",\"symbols\":[\"A\"],\"default\":\"B\"}") ≡ fault.BadEnum ∷ []
unfolding serde_json_on_literals
other_default = refl

pub same_fields : faults (
    codes "{\"type\":\"record\",\"name\":\"R\",\"fields\":[{\"name\":\"a\",\"type\":\"int\"},{\"name\":\"a\",\"type\":\"int\"}]}")
    ≡ fault.BadForm ∷ []
unfolding serde_json_on_literals
same_fields = refl
