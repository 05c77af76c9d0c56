-- A topic with the items that were published, at most one commit that isn't settled, and the nodes.
use Rattle.std.specs.Prelude.{ℕ, suc, zero, List, [], ◌∷◌, ◌++◌, Bool, Option, Some, None, is_some, slice_get, replicate}
use Rattle.std.specs.FinSet.{empty, union}
use Rattle.std.specs.Option.{option_map_or}
use Rattle.reg_alike.specs.reg_set.LastRecords.{last_records}
use Rattle.reg_alike.specs.reg_set.Records.{Records}
use Rattle.reg_alike.specs.reg_floored.Floored.{Floored}
use Rattle.reg_alike.specs.reg_floored.Floors.{rebased}
use Rattle.reg_topic.specs.Topic.{after_items}
use Rattle.reg_topic.specs.declared.published.Commit.{Commit}
use Rattle.reg_topic.specs.declared.published.Item.{Item}
use Rattle.reg_topic.specs.declared.published.Item.TheVariants as items
use Rattle.reg_topic.specs.declared.topic.Topic.{Topic}
use Rattle.reg_world.specs.declared.node.WorldNode.{WorldNode}

-- what contracts see of a world
pub record State : Type 0 where
  pub base : Topic
  pub items : List Item
  pub unsettled : Option Commit
  pub nodes : List WorldNode

-- what the published items come to
abbrev pub topic_of : State → Topic
topic_of s = after_items s.base s.items

abbrev pub publish : State → Item → State
publish s i = record { base = s.base; items = s.items ++ i ∷ []; unsettled = s.unsettled; nodes = s.nodes }

-- the commit that isn't settled is published
abbrev pub settle : Option Commit → State → State
settle None s = s
settle (Some commit) s = record { base = s.base; items = s.items ++ items.Commit commit ∷ []; unsettled = None; nodes = s.nodes }

-- that commit, as an item
abbrev pub settling : Option Commit → List Item
settling None = []
settling (Some commit) = items.Commit commit ∷ []

abbrev pub settled : State → State
settled s = settle s.unsettled s

-- the commit stands unsettled
abbrev pub leave_unsettled : State → Commit → State
leave_unsettled s commit = record { base = s.base; items = s.items; unsettled = Some commit; nodes = s.nodes }

-- Nodes.
abbrev pub no_records : WorldNode
no_records = record { set = record { records = empty; floor = 0 }; took = empty }

abbrev pub taking : Records → WorldNode → WorldNode
taking more node = record { set = record node.set { records = union node.set.records more }; took = union node.took more }

abbrev pub compacted : WorldNode → WorldNode
compacted node = record { set = record node.set { records = last_records node.set.records }; took = node.took }

-- own records from the kept floor on, and the kept ones below it: of the set, and of what was taken
abbrev pub rebasing : Floored → WorldNode → WorldNode
rebasing kept node = record { set = record { records = rebased node.set.records kept; floor = kept.floor }; took = rebased node.took kept }

abbrev pub has_node : State → ℕ → Bool
has_node s i = is_some (slice_get s.nodes i)

-- the set that a node has
abbrev pub set_at : State → ℕ → Floored
set_at s i = option_map_or (λ node. node.set) (slice_get s.nodes i) no_records.set

-- the nodes with the i-th one changed
abbrev pub changed : ℕ → (WorldNode → WorldNode) → List WorldNode → List WorldNode
changed i f [] = []
changed zero f (node ∷ nodes) = f node ∷ nodes
changed (suc i) f (node ∷ nodes) = node ∷ changed i f nodes

abbrev pub with_node : State → ℕ → (WorldNode → WorldNode) → State
with_node s i f = record { base = s.base; items = s.items; unsettled = s.unsettled; nodes = changed i f s.nodes }

-- the beginning: nothing was published, and no node has a record
abbrev pub start : Topic → ℕ → State
start base count = record { base = base; items = []; unsettled = None; nodes = replicate count no_records }
