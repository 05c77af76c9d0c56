-- Private: what a union may have once, where a name stands as the node that it names.
use Rattle.std.specs.Prelude.{◌≡◌, ℕ, List, Bool, true, false, not, ◌&&◌, ◌==◌, nat_lt, if◌then◌else◌, Option, Some, slice_get}
use Rattle.std.specs.List.{list_any}
use Rattle.std.specs.Ordering.{nat_cmp}
use Rattle.std.specs.BTreeSet.{contains}
use Rattle.avro_schema.specs.declared.kinds.BranchKind.{BranchKind}
use Rattle.avro_schema.specs.declared.kinds.BranchKind.TheVariants as branch
use Rattle.avro_schema.specs.declared.kinds.Kinds.{Kinds}
use Rattle.avro_schema.specs.declared.node.Node.{Node}
use Rattle.avro_schema.specs.declared.node.Node.TheVariants as node
use Rattle.avro_schema.specs.declared.node.NodeId.{NodeId}
use Rattle.avro_schema.specs.declared.node.Primitive.{Primitive}
use Rattle.avro_schema.specs.Kinds.{Kind}
use Rattle.avro_schema.specs.Kinds as kind
use Rattle.avro_schema.specs.Places.{Definition}
use Rattle.avro_schema.specs.Faults.{same_primitive}
use Rattle.avro_schema.specs.DefinedNames.{node_named}

abbrev pub same_branch : BranchKind → BranchKind → Bool
same_branch (branch.Primitive p) (branch.Primitive q) = same_primitive p q
same_branch branch.Array branch.Array = true
same_branch branch.Map branch.Map = true
same_branch (branch.Named i) (branch.Named j) = i == j
same_branch _ _ = false

abbrev pub is_union_branch : BranchKind → Bool
is_union_branch branch.Union = true
is_union_branch _ = false

-- whether a branch may stand beside those of the kinds ks
abbrev pub may_stand : BranchKind → List BranchKind → Bool
may_stand k ks = not (is_union_branch k) && not (list_any (same_branch k) ks)

-- the kinds that were met are just ks
pub record HoldsKinds (s : Kinds) (ks : List BranchKind) : Type 0 where
  pub primitives : (p : Primitive) → list_any (λ q. same_primitive q p) s.primitives.items ≡ list_any (same_branch (branch.Primitive p)) ks
  pub array : s.has_array ≡ list_any (same_branch branch.Array) ks
  pub map : s.has_map ≡ list_any (same_branch branch.Map) ks
  pub named : (i : ℕ) → contains nat_cmp s.named i ≡ list_any (same_branch (branch.Named i)) ks

-- the kind of a node that is written
abbrev pub kind_of_node : ℕ → Option Node → BranchKind
kind_of_node i (Some (node.Primitive p)) = branch.Primitive p
kind_of_node i (Some (node.Array j)) = branch.Array
kind_of_node i (Some (node.Map j)) = branch.Map
kind_of_node i (Some (node.Union js)) = branch.Union
kind_of_node i _ = branch.Named i

-- the kind of a branch that was read when `before` nodes were open
abbrev pub branch_kind : ℕ → List Node → NodeId → BranchKind
branch_kind before nodes i = if nat_lt i.index before then branch.Named i.index else kind_of_node i.index (slice_get nodes i.index)

-- a branch's kind stands for the kind k, where the definitions are ds
abbrev pub StandsFor : List Definition → BranchKind → Kind → Type 0
StandsFor ds (branch.Primitive p) k = k ≡ kind.Primitive p
StandsFor ds branch.Array k = k ≡ kind.Array
StandsFor ds branch.Map k = k ≡ kind.Map
StandsFor ds branch.Union k = k ≡ kind.Union
StandsFor ds (branch.Named i) k = (s : List ℕ) × (k ≡ kind.Named s) × (node_named ds s ≡ Some i)
