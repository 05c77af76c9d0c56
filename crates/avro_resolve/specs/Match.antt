-- Which types match, whatever their parts resolve to (Avro 1.11, "Schema Resolution").
use Rattle.std.specs.Prelude.{◌≡◌, ◌<◌, ℕ, zero, suc, List, [], ◌∷◌, length, Bool, true}
use Rattle.std.specs.Prelude.{false, ◌&&◌, ◌||◌, ◌==◌, Option, Some, slice_get, bytes_eq}
use Rattle.std.specs.List.{list_any}
use Rattle.avro_schema.specs.declared.node.FullName.{FullName}
use Rattle.avro_schema.specs.declared.node.NodeId.{NodeId}
use Rattle.avro_schema.specs.declared.node.Primitive.{Primitive}
use Rattle.avro_schema.specs.declared.node.Primitive.TheVariants as simple
use Rattle.avro_schema.specs.declared.node.Node.{Node}
use Rattle.avro_schema.specs.declared.node.Node.TheVariants as kind
use Rattle.avro_schema.specs.Names.{same_name}
use Rattle.avro_schema.specs.Faults.{same_primitive}

-- the last parts are equal, or the writer's full name is among the reader's aliases
abbrev pub names_match : FullName → List FullName → FullName → Bool
names_match reader aliases writer = bytes_eq reader.name writer.name || list_any (same_name writer) aliases

-- what a writer's primitive is promoted to
abbrev pub promotions : Primitive → List Primitive
promotions simple.Int = simple.Long ∷ simple.Float ∷ simple.Double ∷ []
promotions simple.Long = simple.Float ∷ simple.Double ∷ []
promotions simple.Float = simple.Double ∷ []
promotions simple.String = simple.Bytes ∷ []
promotions simple.Bytes = simple.String ∷ []
promotions _ = []

abbrev pub primitives_match : Primitive → Primitive → Bool
primitives_match reader writer = same_primitive reader writer || list_any (same_primitive reader) (promotions writer)

-- the cases, where the items of arrays and the values of maps match by the first argument
abbrev pub nodes_match : (NodeId → NodeId → Bool) → Node → Node → Bool
nodes_match parts (kind.Union bs) w = true
nodes_match parts r (kind.Union bs) = true
nodes_match parts (kind.Primitive p) (kind.Primitive q) = primitives_match p q
nodes_match parts (kind.Record n al fs) (kind.Record m bl gs) = names_match n al m
nodes_match parts (kind.Enum n al ss d) (kind.Enum m bl ts e) = names_match n al m
nodes_match parts (kind.Fixed n al s) (kind.Fixed m bl t) = (s == t) && names_match n al m
nodes_match parts (kind.Array i) (kind.Array j) = parts i j
nodes_match parts (kind.Map i) (kind.Map j) = parts i j
nodes_match parts r w = false

-- a test of the nodes at two places
abbrev pub both : (Node → Node → Bool) → Option Node → Option Node → Bool
both test (Some m) (Some n) = test m n
both test _ _ = false

-- the same, looking through at most so many arrays and maps
abbrev pub matches_within : ℕ → List Node → List Node → NodeId → NodeId → Bool
matches_within zero r w i j = false
matches_within (suc n) r w i j = both (nodes_match (λ k l. matches_within n r w k l)) (slice_get r i.index) (slice_get w j.index)

-- Whether the reader's type i matches the writer's type j: no chain of arrays and maps is longer than the reader's schema.
abbrev pub matches : List Node → List Node → NodeId → NodeId → Bool
matches r w i j = matches_within (suc (length r)) r w i j

-- It is the relation that its cases say, with itself for the parts of arrays and maps.
abbrev pub IsByCases : List Node → List Node → Type 0
IsByCases r w = (i j : NodeId) → matches r w i j ≡ both (nodes_match (matches r w)) (slice_get r i.index) (slice_get w j.index)

-- every type matches itself
abbrev pub EachMatchesItself : List Node → Type 0
EachMatchesItself r = (i : NodeId) → i.index < length r → matches r r i i ≡ true
