-- Private: the full names that were defined so far, found by the number of their namespace and their last part.
use Rattle.std.specs.Prelude.{◌≡◌, ◌<◌, ℕ, List, ◌∷◌, false, length, Option, Some, None}
use Rattle.std.specs.Prelude.{option_map, option_and_then, find, slice_get, bytes_eq}
use Rattle.std.specs.BTreeMap.{get_by_text}
use Rattle.avro_schema.specs.declared.defined_names.DefinedNames.{DefinedNames}
use Rattle.avro_schema.specs.declared.defined_names.Namespace.{Namespace}
use Rattle.avro_schema.specs.Names.{has_dot, joined}
use Rattle.avro_schema.specs.Places.{Definition}

-- the node at which a full name is defined
abbrev pub node_named : List Definition → List ℕ → Option ℕ
node_named ds s = option_map (λ d. d.node) (find (λ d. bytes_eq d.name s) ds)

abbrev pub number_of : DefinedNames → List ℕ → Option ℕ
number_of r ns = get_by_text r.numbers ns

-- the node of the last part s in the namespace of number i
abbrev pub node_in : DefinedNames → ℕ → List ℕ → Option ℕ
node_in r i s = option_and_then (λ m. get_by_text m s) (slice_get r.nodes.items i)

abbrev pub node_of : DefinedNames → List ℕ → List ℕ → Option ℕ
node_of r ns s = option_and_then (λ i. node_in r i s) (number_of r ns)

-- the names that were defined are those of ds
pub record AreDefined (r : DefinedNames) (ds : List Definition) : Type 0 where
  pub within : (ns : List ℕ) (i : ℕ) → number_of r ns ≡ Some i → i < length r.nodes.items
  pub distinct : (ns ms : List ℕ) (i : ℕ) → number_of r ns ≡ Some i → number_of r ms ≡ Some i → ns ≡ ms
  pub found : (ns s : List ℕ) → has_dot s ≡ false → node_of r ns s ≡ node_named ds (joined ns s)
  -- no full name begins with its only dot
  pub fronted : (s : List ℕ) → has_dot s ≡ false → node_named ds (46 ∷ s) ≡ None

abbrev pub IsNumbered : DefinedNames → Namespace → Type 0
IsNumbered r ns = number_of r ns.text ≡ Some ns.number

-- a number that stands for a namespace goes on standing for it
abbrev pub KeepsNumbers : DefinedNames → DefinedNames → Type 0
KeepsNumbers a b = (ns : List ℕ) (i : ℕ) → number_of a ns ≡ Some i → number_of b ns ≡ Some i
