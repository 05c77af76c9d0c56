-- Worked pairs of schemas.
use Rattle.std.proofs.Common.{◌≡◌, ℕ, List, [], ◌∷◌, ◌++◌, Some, None, IsSome, zero, suc}
use Rattle.std.proofs.Common.{inl, inr, arith, option_map, unwrap_or, codes, refl}
use Rattle.std.specs.Fmt.{digits}
use Rattle.serde_json.proofs.OnLiterals.{serde_json_on_literals}
use Rattle.avro_schema.specs.declared.node.Node.{Node}
use Rattle.avro_schema.specs.Schema.{schema_of}
use Rattle.avro_resolve.specs.declared.trail.Hop.TheVariants as hop
use Rattle.avro_resolve.specs.declared.trail.ClashKind.TheVariants as clash
use Rattle.avro_resolve.specs.declared.trail.Trail.{Trail}
use Rattle.avro_resolve.specs.Trails.{trail_along, ComesFirst, IsShown, AreCompatible}
use Rattle.avro_resolve.specs.Texts.{trail_text, clash_text}
use Rattle.avro_resolve.proofs.Order.{ComesFirst_refl}

abbrev pub nodes_in : List ℕ → List Node
nodes_in text = unwrap_or (option_map (λ m. m.nodes) (schema_of text)) []

abbrev pub shown_text : Trail → List ℕ
shown_text t = trail_text t.hops ++ codes ": " ++ clash_text t.kind

-- a field may widen
pub widened : trail_along
    (nodes_in (codes "{\"type\":\"record\",\"name\":\"Node\",\"fields\":[{\"name\":\"v\",\"type\":\"long\"},{\"name\":\"next\",\"type\":[\"null\",\"Node\"]}]}"))
    (nodes_in (codes "{\"type\":\"record\",\"name\":\"Node\",\"fields\":[{\"name\":\"v\",\"type\":\"int\"},{\"name\":\"next\",\"type\":[\"null\",\"Node\"]}]}"))
    (0 ∷ [])
    ≡ None
unfolding serde_json_on_literals
widened = refl

-- and not narrow
pub narrowed : option_map shown_text (
    trail_along
    (nodes_in (codes "{\"type\":\"record\",\"name\":\"Node\",\"fields\":[{\"name\":\"v\",\"type\":\"int\"},{\"name\":\"next\",\"type\":[\"null\",\"Node\"]}]}"))
    (nodes_in (codes "{\"type\":\"record\",\"name\":\"Node\",\"fields\":[{\"name\":\"v\",\"type\":\"long\"},{\"name\":\"next\",\"type\":[\"null\",\"Node\"]}]}"))
    (0 ∷ []))
    ≡ Some (codes "/field:v: TYPE_MISMATCH")
unfolding serde_json_on_literals digits
narrowed = refl

-- two records that lead to each other
pub round_about : option_map shown_text (
    trail_along
    (nodes_in (codes "{\"type\":\"record\",\"name\":\"A\",\"fields\":[{\"name\":\"next\",\"type\":[\"null\",{\"type\":\"record\",\"name\":\"B\",\"fields\":[{\"name\":\"back\",\"type\":[\"null\",\"A\"]},{\"name\":\"v\",\"type\":\"int\"}]}]}]}"))
    (nodes_in (codes "{\"type\":\"record\",\"name\":\"A\",\"fields\":[{\"name\":\"next\",\"type\":[\"null\",{\"type\":\"record\",\"name\":\"B\",\"fields\":[{\"name\":\"back\",\"type\":[\"null\",\"A\"]},{\"name\":\"v\",\"type\":\"long\"}]}]}]}"))
    (0 ∷ 1 ∷ 0 ∷ 1 ∷ []))
    ≡ Some (codes "/field:next/writer:1/reader:1/field:v: TYPE_MISMATCH")
unfolding serde_json_on_literals digits
round_about = refl

-- the first branch that matches is taken, by the last part of its name
pub first_matching_branch : option_map shown_text (
    trail_along
    (nodes_in (codes "[{\"type\":\"record\",\"name\":\"a.R\",\"fields\":[{\"name\":\"x\",\"type\":\"int\"}]},{\"type\":\"record\",\"name\":\"b.R\",\"fields\":[]}]"))
    (nodes_in (codes "{\"type\":\"record\",\"name\":\"b.R\",\"fields\":[]}")) (0 ∷ []))
    ≡ Some (codes "/reader:0: READER_FIELD_MISSING_DEFAULT_VALUE x")
unfolding serde_json_on_literals digits
first_matching_branch = refl

-- a symbol that the reader lacks
pub symbol_gone : option_map shown_text (
    trail_along (nodes_in (codes "{\"type\":\"enum\",\"name\":\"E\",\"symbols\":[\"A\"]}"))
    (nodes_in (codes "{\"type\":\"enum\",\"name\":\"E\",\"symbols\":[\"A\",\"B\"]}")) ([]))
    ≡ Some (codes "/: MISSING_ENUM_SYMBOLS B")
unfolding serde_json_on_literals digits
symbol_gone = refl

-- unless it has a default
pub symbol_default : trail_along (nodes_in (codes "{\"type\":\"enum\",\"name\":\"E\",\"symbols\":[\"A\"],\"default\":\"A\"}"))
    (nodes_in (codes "{\"type\":\"enum\",\"name\":\"E\",\"symbols\":[\"A\",\"B\"]}")) ([])
    ≡ None
unfolding serde_json_on_literals
symbol_default = refl

-- aliases of a record
pub renamed : trail_along
    (nodes_in (codes "{\"type\":\"record\",\"name\":\"New\",\"namespace\":\"x\",\"aliases\":[\"Old\"],\"fields\":[{\"name\":\"q\",\"type\":\"int\",\"aliases\":[\"p\"]}]}"))
    (nodes_in (codes "{\"type\":\"record\",\"name\":\"x.Old\",\"fields\":[{\"name\":\"p\",\"type\":\"int\"}]}")) ([])
    ≡ None
unfolding serde_json_on_literals
renamed = refl

-- and of its field
pub renamed_field : trail_along
    (nodes_in (codes "{\"type\":\"record\",\"name\":\"New\",\"namespace\":\"x\",\"aliases\":[\"Old\"],\"fields\":[{\"name\":\"q\",\"type\":\"int\",\"aliases\":[\"p\"]}]}"))
    (nodes_in (codes "{\"type\":\"record\",\"name\":\"x.Old\",\"fields\":[{\"name\":\"p\",\"type\":\"int\"}]}")) (0 ∷ [])
    ≡ None
unfolding serde_json_on_literals
renamed_field = refl

-- a new field without a default
pub field_gone : option_map shown_text (
    trail_along
    (nodes_in (
    codes "{\"type\":\"record\",\"name\":\"R\",\"fields\":[{\"name\":\"a\",\"type\":\"int\"},{\"name\":\"b\",\"type\":\"int\"}]}"))
    (nodes_in (codes "{\"type\":\"record\",\"name\":\"R\",\"fields\":[{\"name\":\"a\",\"type\":\"int\"}]}")) ([]))
    ≡ Some (codes "/: READER_FIELD_MISSING_DEFAULT_VALUE b")
unfolding serde_json_on_literals digits
field_gone = refl

-- one reader type against two writer types of its last part
pub by_last_part : option_map shown_text (
    trail_along
    (nodes_in (codes "{\"type\":\"record\",\"name\":\"R\",\"fields\":[{\"name\":\"x\",\"type\":{\"type\":\"record\",\"name\":\"M\",\"fields\":[{\"name\":\"v\",\"type\":\"int\"}]}},{\"name\":\"y\",\"type\":\"M\"}]}"))
    (nodes_in (codes "{\"type\":\"record\",\"name\":\"R\",\"fields\":[{\"name\":\"x\",\"type\":{\"type\":\"record\",\"name\":\"a.M\",\"fields\":[{\"name\":\"v\",\"type\":\"int\"}]}},{\"name\":\"y\",\"type\":{\"type\":\"record\",\"name\":\"b.M\",\"fields\":[{\"name\":\"v\",\"type\":\"string\"}]}}]}"))
    (1 ∷ 0 ∷ []))
    ≡ Some (codes "/field:y/field:v: TYPE_MISMATCH")
unfolding serde_json_on_literals digits
by_last_part = refl

-- two clashes at one depth, of which the first in the reader's order is shown
abbrev two_strings : List Node
two_strings =
    nodes_in (
    codes "{\"type\":\"record\",\"name\":\"R\",\"fields\":[{\"name\":\"b\",\"type\":\"string\"},{\"name\":\"a\",\"type\":\"string\"}]}")

abbrev two_ints : List Node
two_ints =
    nodes_in (codes "{\"type\":\"record\",\"name\":\"R\",\"fields\":[{\"name\":\"a\",\"type\":\"int\"},{\"name\":\"b\",\"type\":\"int\"}]}")

pub in_readers_order : option_map shown_text (trail_along two_ints two_strings (0 ∷ [])) ≡ Some (codes "/field:a: TYPE_MISMATCH")
unfolding serde_json_on_literals digits
in_readers_order = refl

-- no branch of the empty union matches
pub empty_reader : option_map shown_text (trail_along (nodes_in (codes "[]")) (nodes_in (codes "\"int\"")) [])
    ≡ Some (codes "/: MISSING_UNION_BRANCH")
unfolding serde_json_on_literals digits
empty_reader = refl

-- and nothing of it has to be read
pub empty_writer : AreCompatible (nodes_in (codes "\"int\"")) (nodes_in (codes "[]"))
unfolding serde_json_on_literals
empty_writer [] = refl
empty_writer (k ∷ ks) = refl

-- A schema need not be compatible with itself: the second record matches the first by the last part of its name.
abbrev two_records : List Node
two_records = nodes_in (codes "[{\"type\":\"record\",\"name\":\"a.R\",\"fields\":[{\"name\":\"x\",\"type\":\"int\"}]},{\"type\":\"record\",\"name\":\"b.R\",\"fields\":[]}]")

pub with_itself : option_map shown_text (trail_along two_records two_records (1 ∷ 0 ∷ []))
    ≡ Some (codes "/writer:1/reader:0: READER_FIELD_MISSING_DEFAULT_VALUE x")
unfolding serde_json_on_literals digits
with_itself = refl

pub not_with_itself : AreCompatible two_records two_records → ⊥
unfolding serde_json_on_literals
not_with_itself h = let leads : trail_along two_records two_records (1 ∷ 0 ∷ []) ≡ None = h (1 ∷ 0 ∷ []) in cc

-- The trail that is shown, with all the others compared.
abbrev int_list : List Node
int_list = nodes_in (codes "{\"type\":\"record\",\"name\":\"Node\",\"fields\":[{\"name\":\"v\",\"type\":\"int\"},{\"name\":\"next\",\"type\":[\"null\",\"Node\"]}]}")

abbrev long_list : List Node
long_list = nodes_in (codes "{\"type\":\"record\",\"name\":\"Node\",\"fields\":[{\"name\":\"v\",\"type\":\"long\"},{\"name\":\"next\",\"type\":[\"null\",\"Node\"]}]}")

pub narrowed_shown : IsShown int_list long_list (record { hops = hop.Field (codes "v") ∷ []; kind = clash.TypeMismatch })
unfolding serde_json_on_literals
narrowed_shown = (0 ∷ [], refl, first)
  where
    first : (ls : List ℕ) → IsSome (trail_along int_list long_list ls) → ComesFirst (0 ∷ []) ls
    first [] p = cc
    first (zero ∷ []) p = ComesFirst_refl (0 ∷ [])
    first (suc k ∷ []) p = inr (refl, inl (omega arith))
    first (k ∷ l ∷ ls) p = inl (omega arith)

-- A shortest trail has no numbers where the roots clash.
pub root_shown : (r w : List Node) (t : Trail) → trail_along r w [] ≡ Some t → IsShown r w t
root_shown r w t e = ([], e, λ ls p. first ls)
  where
    first : (ls : List ℕ) → ComesFirst [] ls
    first [] = ComesFirst_refl []
    first (l ∷ ls) = inl (omega arith)
