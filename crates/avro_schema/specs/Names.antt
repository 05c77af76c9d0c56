-- Names, namespaces and full names (Avro 1.11, "Names").
use Rattle.std.specs.Prelude.{ℕ, List, [], ◌∷◌, ◌++◌, length, Bool, false, ◌&&◌, ◌||◌, ◌==◌}
use Rattle.std.specs.Prelude.{if◌then◌else◌, Option, find, is_none, codes, bytes_eq}
use Rattle.std.specs.Char.{is_ascii_alphabetic, is_ascii_alphanumeric}
use Rattle.std.specs.List.{list_any, list_all, slice_split, before_last, after_last}
pub use Rattle.named_list.specs.Distinct.{all_distinct}
use Rattle.avro_schema.specs.declared.node.FullName.{FullName}
use Rattle.avro_schema.specs.declared.node.Primitive.{Primitive}
use Rattle.avro_schema.specs.declared.node.Primitive.TheVariants.{Null, Boolean, Int, Long, Float, Double, Bytes, String}

-- ---- primitive names (Avro 1.11, "Primitive Types")

abbrev pub primitive_text : Primitive → List ℕ
primitive_text Null = codes "null"
primitive_text Boolean = codes "boolean"
primitive_text Int = codes "int"
primitive_text Long = codes "long"
primitive_text Float = codes "float"
primitive_text Double = codes "double"
primitive_text Bytes = codes "bytes"
primitive_text String = codes "string"

abbrev pub primitive_named : List ℕ → Option Primitive
primitive_named s = find (λ p. bytes_eq (primitive_text p) s) (Null ∷ Boolean ∷ Int ∷ Long ∷ Float ∷ Double ∷ Bytes ∷ String ∷ [])

-- ---- names

-- a letter or `_`, and then letters, digits and `_`
abbrev pub is_name : List ℕ → Bool
is_name [] = false
is_name (x ∷ xs) = (is_ascii_alphabetic x || (x == 95)) && list_all (λ y. is_ascii_alphanumeric y || (y == 95)) xs

abbrev pub is_dot : ℕ → Bool
is_dot x = x == 46

abbrev pub has_dot : List ℕ → Bool
has_dot s = list_any is_dot s

-- each part between dots is a name
abbrev pub is_full_name : List ℕ → Bool
is_full_name s = list_all is_name (slice_split is_dot s)

-- the name of a type: each part is a name, and the last one no primitive's
abbrev pub is_type_name : List ℕ → Bool
is_type_name s = is_full_name s && is_none (primitive_named (after_last is_dot s))

-- ---- full names

-- what a text names where a namespace applies: a text with a dot is a full name already
abbrev pub full_name : List ℕ → List ℕ → FullName
full_name namespace s = record { namespace = (if has_dot s then before_last is_dot s else namespace); name = after_last is_dot s }

-- a name behind a namespace, with a dot between them unless it is the null namespace
abbrev pub joined : List ℕ → List ℕ → List ℕ
joined namespace s = if length namespace == 0 then s else namespace ++ 46 ∷ s

-- the full name as a text: one with a dot stays as it is written
abbrev pub full_text : List ℕ → List ℕ → List ℕ
full_text namespace s = if has_dot s then s else joined namespace s

abbrev pub same_name : FullName → FullName → Bool
same_name m n = bytes_eq m.namespace n.namespace && bytes_eq m.name n.name

-- ---- lists

abbrev pub has_text : List (List ℕ) → List ℕ → Bool
has_text texts s = list_any (bytes_eq s) texts
