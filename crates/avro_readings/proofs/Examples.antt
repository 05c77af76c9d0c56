-- Worked readings.
use Rattle.std.proofs.Common.{◌≡◌, ℕ, List, [], Some, None, option_map, unwrap_or, codes, refl}
use Rattle.serde_json.proofs.OnLiterals.{serde_json_on_literals}
use Rattle.avro_resolve.specs.avro_schema.declared.node.Node.{Node}
use Rattle.avro_resolve.specs.avro_schema.Schema.{schema_of}
use Rattle.avro_resolve.specs.Trails.{roots}
use Rattle.avro_data.specs.Value.{leaf, symbol, list_of, branch, fields_of, by_default, no_values, no_members, member}
use Rattle.avro_readings.specs.Reads.{reads}

abbrev pub nodes_in : List ℕ → List Node
nodes_in text = unwrap_or (option_map (λ m. m.nodes) (schema_of text)) []

-- a list whose field widens
pub widened : reads
    (nodes_in (codes "{\"type\":\"record\",\"name\":\"Node\",\"fields\":[{\"name\":\"v\",\"type\":\"long\"},{\"name\":\"next\",\"type\":[\"null\",\"Node\"]}]}"))
    (nodes_in (codes "{\"type\":\"record\",\"name\":\"Node\",\"fields\":[{\"name\":\"v\",\"type\":\"int\"},{\"name\":\"next\",\"type\":[\"null\",\"Node\"]}]}")) roots
    (fields_of (member (codes "v") leaf (member (codes "next") (branch 0 leaf) no_members)))
    ≡ Some (fields_of (member (codes "v") leaf (member (codes "next") (branch 0 leaf) no_members)))
unfolding serde_json_on_literals
widened = refl

-- a field without a partner
pub new_field : reads
    (nodes_in (codes "{\"type\":\"record\",\"name\":\"R\",\"fields\":[{\"name\":\"a\",\"type\":\"long\"},{\"name\":\"b\",\"type\":\"int\",\"default\":0}]}"))
    (nodes_in (codes "{\"type\":\"record\",\"name\":\"R\",\"fields\":[{\"name\":\"a\",\"type\":\"int\"}]}")) roots
    (fields_of (member (codes "a") leaf no_members))
    ≡ Some (fields_of (member (codes "a") leaf (member (codes "b") by_default no_members)))
unfolding serde_json_on_literals
new_field = refl

-- an unreadable leaf
pub other_kind : reads (nodes_in (codes "\"int\"")) (nodes_in (codes "\"string\"")) roots leaf ≡ None
unfolding serde_json_on_literals
other_kind = refl

-- the reader's own branch number
pub own_branch : reads (nodes_in (codes "[\"string\",\"long\"]")) (nodes_in (codes "[\"int\",\"null\"]")) roots (branch 0 leaf)
    ≡ Some (branch 1 leaf)
unfolding serde_json_on_literals
own_branch = refl

-- a symbol that the reader lacks, and one that it has, where the enums clash
pub gone : reads (nodes_in (codes "{\"type\":\"enum\",\"name\":\"E\",\"symbols\":[\"A\"]}"))
    (nodes_in (codes "{\"type\":\"enum\",\"name\":\"E\",\"symbols\":[\"A\",\"B\"]}")) roots (symbol (codes "B"))
    ≡ None
unfolding serde_json_on_literals
gone = refl

pub still_there : reads (nodes_in (codes "{\"type\":\"enum\",\"name\":\"E\",\"symbols\":[\"A\"]}"))
    (nodes_in (codes "{\"type\":\"enum\",\"name\":\"E\",\"symbols\":[\"A\",\"B\"]}")) roots (symbol (codes "A"))
    ≡ Some (symbol (codes "A"))
unfolding serde_json_on_literals
still_there = refl

-- an unknown symbol is the reader's default
pub preset : reads (nodes_in (codes "{\"type\":\"enum\",\"name\":\"E\",\"symbols\":[\"A\"],\"default\":\"A\"}"))
    (nodes_in (codes "{\"type\":\"enum\",\"name\":\"E\",\"symbols\":[\"A\",\"B\"]}")) roots (symbol (codes "B"))
    ≡ Some (symbol (codes "A"))
unfolding serde_json_on_literals
preset = refl

-- no item of a clashing type is met in an empty list
pub empty_list : reads (nodes_in (codes "{\"type\":\"array\",\"items\":\"int\"}"))
    (nodes_in (codes "{\"type\":\"array\",\"items\":\"string\"}")) roots (list_of no_values)
    ≡ Some (list_of no_values)
unfolding serde_json_on_literals
empty_list = refl

-- fields in the reader's order, by an alias
pub renamed : reads
    (nodes_in (codes "{\"type\":\"record\",\"name\":\"R\",\"fields\":[{\"name\":\"c\",\"type\":\"int\",\"aliases\":[\"b\"]},{\"name\":\"a\",\"type\":[\"null\",\"int\"]}]}"))
    (nodes_in (
    codes "{\"type\":\"record\",\"name\":\"R\",\"fields\":[{\"name\":\"a\",\"type\":\"int\"},{\"name\":\"b\",\"type\":\"int\"}]}")) roots
    (fields_of (member (codes "a") leaf (member (codes "b") leaf no_members)))
    ≡ Some (fields_of (member (codes "c") leaf (member (codes "a") (branch 1 leaf) no_members)))
unfolding serde_json_on_literals
renamed = refl

-- two fields of the reader may read one of the writer's, so that a reading may be larger than its value
pub doubled : reads
    (nodes_in (codes "{\"type\":\"record\",\"name\":\"R\",\"fields\":[{\"name\":\"x\",\"type\":\"int\",\"aliases\":[\"p\"]},{\"name\":\"y\",\"type\":\"int\",\"aliases\":[\"p\"]}]}"))
    (nodes_in (codes "{\"type\":\"record\",\"name\":\"R\",\"fields\":[{\"name\":\"p\",\"type\":\"int\"}]}")) roots
    (fields_of (member (codes "p") leaf no_members))
    ≡ Some (fields_of (member (codes "x") leaf (member (codes "y") leaf no_members)))
unfolding serde_json_on_literals
doubled = refl
