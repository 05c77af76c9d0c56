-- Private: indexes of the reader's unions.
use Rattle.std.specs.Prelude.{◌≡◌, ◌<◌, leb, ℕ, List, [], length, find, filter, All, Option, Some, None, cond, slice_get}
use Rattle.std.specs.BTreeMap.{BTreeMap, get}
use Rattle.std.specs.List.{enumerate_from}
use Rattle.std.specs.Ordering.{nat_cmp}
use Rattle.avro_schema.specs.declared.node.Node.{Node}
use Rattle.avro_schema.specs.declared.node.Node.TheVariants as kind
use Rattle.avro_schema.specs.declared.node.NodeId.{NodeId}
use Rattle.avro_resolve.specs.declared.labels.Label.{Label}
use Rattle.avro_resolve.specs.declared.unions.Branches.{Branches}
use Rattle.avro_resolve.specs.Labels.{has_label, is_unnamed, label_cmp}

abbrev pub branches_in : Option Node → List NodeId
branches_in (Some (kind.Union bs)) = bs
branches_in _ = []

-- of two branches with their numbers the one with the lesser
abbrev pub earlier : Option (ℕ × NodeId) → Option (ℕ × NodeId) → Option (ℕ × NodeId)
earlier None b = b
earlier (Some a) None = Some a
earlier (Some a) (Some b) = cond (leb a.0 b.0) (Some a) (Some b)

module _ (r : List Node) where
  -- the branches bs, each with its number: the first of each label, and those without a name
  pub record IsIndex (bs : List NodeId) (index : Branches) : Type 0 where
    pub labelled : (l : Label) → get label_cmp index.labelled l ≡ find (λ b. has_label (slice_get r b.1.index) l) (enumerate_from 0 bs)
    pub unnamed : index.unnamed.items ≡ filter (λ b. is_unnamed (slice_get r b.1.index)) (enumerate_from 0 bs)
    pub within : All (λ b. b.1.index < length r) index.unnamed.items

  -- what is kept of a union is an index of its branches
  abbrev pub AreIndexes : BTreeMap ℕ Branches → Type 0
  AreIndexes kept = (i : ℕ) (x : Branches) → get nat_cmp kept i ≡ Some x → IsIndex (branches_in (slice_get r i)) x
