-- What holds of the nodes of every schema.
use Rattle.std.specs.Prelude.{◌≡◌, ◌≢◌, ◌<◌, ◌⊎◌, ℕ, List, [], ◌∷◌, length, map, All, Option, Some, None, slice_get}
use Rattle.avro_schema.specs.declared.node.NodeId.{NodeId}
use Rattle.avro_schema.specs.declared.node.Field.{Field}
use Rattle.avro_schema.specs.declared.node.Node.{Node}
use Rattle.avro_schema.specs.declared.node.Node.TheVariants as kind

abbrev pub fields_of_node : Node → List Field
fields_of_node (kind.Record n al fs) = fs
fields_of_node _ = []

-- the nodes that a node leads to
abbrev pub parts_of_node : Node → List NodeId
parts_of_node (kind.Record n al fs) = map (λ f. f.node) fs
parts_of_node (kind.Array i) = i ∷ []
parts_of_node (kind.Map i) = i ∷ []
parts_of_node (kind.Union is) = is
parts_of_node _ = []

-- what an array or a map is of
abbrev pub inner : Option Node → Option NodeId
inner (Some (kind.Array i)) = Some i
inner (Some (kind.Map i)) = Some i
inner _ = None

-- no two of the fields have one name
abbrev pub HaveDistinctNames : List Field → Type 0
HaveDistinctNames fs = (a b : ℕ) (f g : Field) → slice_get fs a ≡ Some f → slice_get fs b ≡ Some g → f.name ≡ g.name → a ≡ b

pub record IsSound (ns : List Node) : Type 0 where
  pub has_root : 0 < length ns
  -- each node leads to nodes of the schema alone
  pub closed : (i : ℕ) (n : Node) → slice_get ns i ≡ Some n → All (λ j. j.index < length ns) (parts_of_node n)
  -- what an array or a map is of opens after it, or is no array and no map
  pub leads_on : (i : ℕ) (j : NodeId) → inner (slice_get ns i) ≡ Some j → (i < j.index) ⊎ (inner (slice_get ns j.index) ≡ None)
  pub distinct_fields : (i : ℕ) (n : Node) → slice_get ns i ≡ Some n → HaveDistinctNames (fields_of_node n)
  -- no branch of a union is a union
  pub flat_unions : (i : ℕ) (bs : List NodeId) → slice_get ns i ≡ Some (kind.Union bs)
      → All (λ b. (cs : List NodeId) → slice_get ns b.index ≢ Some (kind.Union cs)) bs
