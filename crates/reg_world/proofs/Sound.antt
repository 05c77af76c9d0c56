-- What every event keeps.
use Rattle.std.proofs.Common.{◌≡◌, ◌≤◌, ℕ, suc, zero, List, [], ◌∷◌, ◌++◌, Option, Some, None}
use Rattle.std.proofs.Common.{IfSome, slice_get, replicate, refl, sym, subst, arith}
use Rattle.std.specs.List.{AllByRecursion}
use Rattle.reg_alike.specs.reg_set.Records.{Records}
use Rattle.reg_alike.specs.reg_floored.Compaction.{IsCompactionOf, KeepsLasts}
use Rattle.reg_topic.specs.Topic.{IsAdopted, IsLawful, MayCommit, MayFollow, after_items, whole_log}
use Rattle.reg_topic.specs.declared.published.Commit.{Commit}
use Rattle.reg_topic.specs.declared.published.Item.{Item}
use Rattle.reg_topic.specs.declared.published.Item.TheVariants as items
use Rattle.reg_topic.specs.declared.topic.Topic.{Topic}
use Rattle.reg_world.specs.Core.{IsNodeOf}
use Rattle.reg_world.specs.LowerLaws.{LowerLaws}
use Rattle.reg_world.specs.State.{State, changed, no_records, publish, settle, settled, start, topic_of, with_node}
use Rattle.reg_world.specs.declared.node.WorldNode.{WorldNode}
use Rattle.reg_world.proofs.Lasts.{keeps_compacted}
use Rattle.reg_world.proofs.Nodes.{node-empty, node-item}

pub record IsSound (s : State) : Type 0 where
  pub adopted : IsAdopted s.base
  pub lawful : IsLawful s.base s.items
  pub pending : IfSome s.unsettled (MayCommit (topic_of s))
  pub nodes : AllByRecursion (IsNodeOf (topic_of s)) s.nodes

-- Nodes.
pub all_changed : (P : WorldNode → Type 0) (f : WorldNode → WorldNode) (i : ℕ) (ns : List WorldNode)
    → ((n : WorldNode) → slice_get ns i ≡ Some n → P n → P (f n)) → AllByRecursion P ns → AllByRecursion P (changed i f ns)
all_changed P f i [] h a = tt
all_changed P f zero (n ∷ ns) h a = (h n refl a.0, a.1)
all_changed P f (suc i) (n ∷ ns) h a = (a.0, all_changed P f i ns h a.1)

pub all_kept : (P Q : WorldNode → Type 0) → ((n : WorldNode) → P n → Q n) → (ns : List WorldNode) → AllByRecursion P ns → AllByRecursion Q ns
all_kept P Q h [] a = tt
all_kept P Q h (n ∷ ns) a = (h n a.0, all_kept P Q h ns a.1)

pub all_equal : (P : WorldNode → Type 0) (n : WorldNode) → P n → (count : ℕ) → AllByRecursion P (replicate count n)
all_equal P n h zero = tt
all_equal P n h (suc count) = (h, all_equal P n h count)

pub at_index : (P : WorldNode → Type 0) (ns : List WorldNode) (i : ℕ) → AllByRecursion P ns → IfSome (slice_get ns i) P
at_index P [] i a = tt
at_index P (n ∷ ns) zero a = a.0
at_index P (n ∷ ns) (suc i) a = at_index P ns i a.1

-- once what isn't settled is, nothing is left to settle
pub settle-none : (u : Option Commit) (s : State) → s.unsettled ≡ u → (settle u s).unsettled ≡ None
settle-none None s e = e
settle-none (Some commit) s e = refl

module _ (l : LowerLaws) where
  -- the kept set that a base begins with is its log
  base_kept : (base : Topic) → IsAdopted base → IsCompactionOf base.kept (whole_log base)
  base_kept base adopted =
      let same : KeepsLasts base.kept.records base.log = subst (λ k. KeepsLasts k base.log) (sym adopted.whole) (l.keeps_own base.log) in
      keeps_compacted base.kept.records base.log base.kept.floor 0 (omega arith) same

  pub kept : (s : State) → IsSound s → IsCompactionOf (topic_of s).kept (whole_log (topic_of s))
  kept s h = l.kept s.base s.items h.adopted.floor_below (base_kept s.base h.adopted)

  low : (s : State) → IsSound s → (topic_of s).kept.floor ≤ (topic_of s).next
  low s h = l.below s.base s.items h.adopted.floor_below

  -- an item that may follow
  sound-add : (s : State) (i : Item) (unsettled : Option Commit) → IsSound s → MayFollow (topic_of s) i
      → IfSome unsettled (MayCommit (after_items s.base (s.items ++ i ∷ [])))
      → IsSound (record { base = s.base; items = s.items ++ i ∷ []; unsettled = unsettled; nodes = s.nodes })
  sound-add s i unsettled h m pending = record {
    adopted = h.adopted;
    lawful = l.go_on s.base s.items i h.lawful m;
    pending = pending;
    nodes = all_kept (IsNodeOf (topic_of s)) (IsNodeOf (after_items s.base (s.items ++ i ∷ [])))
        (λ n k. subst (λ (t : Topic). IsNodeOf t n) (sym (l.in_turn s.base s.items i)) (node-item l (topic_of s) i (low s h) n k))
        s.nodes h.nodes;
  }

  pub sound-publish : (s : State) (i : Item) → s.unsettled ≡ None → IsSound s → MayFollow (topic_of s) i → IsSound (publish s i)
  sound-publish s i none h m =
      sound-add s i s.unsettled h m (subst (λ u. IfSome u (MayCommit (after_items s.base (s.items ++ i ∷ [])))) (sym none) tt)

  sound-settle : (u : Option Commit) (s : State) → s.unsettled ≡ u → IsSound s → IsSound (settle u s)
  sound-settle None s e h = h
  sound-settle (Some commit) s e h =
      sound-add s (items.Commit commit) None h (subst (λ u. IfSome u (MayCommit (topic_of s))) e h.pending) tt

  pub sound-settled : (s : State) → IsSound s → IsSound (settled s)
  sound-settled s h = sound-settle s.unsettled s refl h

  pub sound-node : (s : State) (i : ℕ) (f : WorldNode → WorldNode)
      → ((n : WorldNode) → slice_get s.nodes i ≡ Some n → IsNodeOf (topic_of s) n → IsNodeOf (topic_of s) (f n))
      → IsSound s → IsSound (with_node s i f)
  sound-node s i f g h = record {
    adopted = h.adopted;
    lawful = h.lawful;
    pending = h.pending;
    nodes = all_changed (IsNodeOf (topic_of s)) f i s.nodes g h.nodes;
  }

  pub sound-start : (base : Topic) (count : ℕ) → IsAdopted base → IsSound (start base count)
  sound-start base count h =
      record { adopted = h; lawful = tt; pending = tt; nodes = all_equal (IsNodeOf base) no_records (node-empty l base) count }
