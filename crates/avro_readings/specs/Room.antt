-- Private: the room that values take.
use Rattle.std.specs.Prelude.{◌≡◌, ◌+◌, ◌≤◌, Option, Some, None}
use Rattle.avro_data.specs.Value.{Value, list_of, map_of, branch, fields_of, Values, Members}
use Rattle.avro_data.specs.Size.{parts, depth, parts_of_values, depth_of_values, parts_of_members, depth_of_members}
use Rattle.avro_readings.specs.declared.room.Room.{Room}
use Rattle.avro_readings.specs.declared.room.Halt.{Halt}
use Rattle.avro_readings.specs.declared.room.Halt.TheVariants.{Unreadable, TooLarge, OutOfMemory}

-- ---- how much a value takes

abbrev pub value_room : Value → Room
value_room v = record { parts = parts v; levels = depth v }

abbrev pub values_room : Values → Room
values_room vs = record { parts = parts_of_values vs; levels = depth_of_values vs }

abbrev pub members_room : Members → Room
members_room ms = record { parts = parts_of_members ms; levels = depth_of_members ms }

-- what is inside a value
abbrev pub inner_room : Value → Room
inner_room (list_of vs) = values_room vs
inner_room (map_of ms) = members_room ms
inner_room (branch k v) = value_room v
inner_room (fields_of ms) = members_room ms
inner_room v = record { parts = 0; levels = 0 }

-- ---- how much is left

pub record FitsIn (had taken : Room) : Type 0 where
  pub parts : taken.parts ≤ had.parts
  pub levels : taken.levels ≤ had.levels

-- so much was taken
pub record IsTaken (had left taken : Room) : Type 0 where
  pub parts : taken.parts + left.parts ≡ had.parts
  pub levels : left.levels ≡ had.levels
  pub deep : taken.levels ≤ had.levels

-- nothing was made of what would take so much, if there is anything
abbrev pub IsHalt : Room → Option Room → Halt → Type 0
IsHalt had taken Unreadable = taken ≡ None
IsHalt had taken TooLarge = (size : Room) → taken ≡ Some size → FitsIn had size → ⊥
IsHalt had taken OutOfMemory = Unit {0}
