-- Private: which types each type is used in, as far as a sample of these waits for one of it.
use Rattle.std.specs.Prelude.{◌≡◌, ◌<◌, List, [], length, map, Contains, Some, slice_get}
use Rattle.std.specs.Global.{Vec}
use Rattle.avro_schema.specs.declared.node.NodeId.{NodeId}
use Rattle.avro_schema.specs.declared.node.Node.{Node}
use Rattle.avro_schema.specs.declared.node.Node.TheVariants as kind

-- the types whose samples make this one's
abbrev pub awaited : Node → List NodeId
awaited (kind.Record n al fs) = map (λ f. f.node) fs
awaited (kind.Union bs) = bs
awaited _ = []

-- a type is listed under one that it uses
abbrev pub HasUser : List (Vec NodeId) → NodeId → NodeId → Type 0
HasUser users j i = (list : Vec NodeId) × (slice_get users j.index ≡ Some list) × Contains list.items i

abbrev pub AreGrown : List (Vec NodeId) → List (Vec NodeId) → Type 0
AreGrown before users = (j i : NodeId) → HasUser before j i → HasUser users j i

-- it is listed under each of these that there is a list for
abbrev pub IsUserOf : List (Vec NodeId) → NodeId → List NodeId → Type 0
IsUserOf users i js = (j : NodeId) → Contains js j → j.index < length users → HasUser users j i

pub record AreUsers (nodes : List Node) (users : List (Vec NodeId)) : Type 0 where
  pub size : length users ≡ length nodes
  pub each : (i : NodeId) (n : Node) → slice_get nodes i.index ≡ Some n → IsUserOf users i (awaited n)

-- each user of one of these is among those found
abbrev pub AreUsersOf : List (Vec NodeId) → List NodeId → List NodeId → Type 0
AreUsersOf users given found = (j i : NodeId) → Contains given j → HasUser users j i → Contains found i
