-- How large a value is.
use Rattle.std.specs.Prelude.{ℕ, ◌+◌, max, nat_lt, Bool, ◌||◌}
use Rattle.avro_data.specs.declared.limits.TheConstants.{PARTS_LIMIT, LEVELS_LIMIT}
use Rattle.avro_data.specs.Value.{Value, leaf, symbol, list_of, map_of, branch, fields_of}
use Rattle.avro_data.specs.Value.{by_default, Values, no_values, value, Members}
use Rattle.avro_data.specs.Value.{no_members, member}

-- the number of values in a value, itself counted
abbrev mutual
  pub parts : Value → ℕ
  parts leaf = 1
  parts (symbol s) = 1
  parts (list_of vs) = 1 + parts_of_values vs
  parts (map_of ms) = 1 + parts_of_members ms
  parts (branch k v) = 1 + parts v
  parts (fields_of ms) = 1 + parts_of_members ms
  parts by_default = 1

  pub parts_of_values : Values → ℕ
  parts_of_values no_values = 0
  parts_of_values (value v vs) = parts v + parts_of_values vs

  pub parts_of_members : Members → ℕ
  parts_of_members no_members = 0
  parts_of_members (member k v ms) = parts v + parts_of_members ms

-- how many levels a value has
abbrev mutual
  pub depth : Value → ℕ
  depth leaf = 1
  depth (symbol s) = 1
  depth (list_of vs) = 1 + depth_of_values vs
  depth (map_of ms) = 1 + depth_of_members ms
  depth (branch k v) = 1 + depth v
  depth (fields_of ms) = 1 + depth_of_members ms
  depth by_default = 1

  pub depth_of_values : Values → ℕ
  depth_of_values no_values = 0
  depth_of_values (value v vs) = max (depth v) (depth_of_values vs)

  pub depth_of_members : Members → ℕ
  depth_of_members no_members = 0
  depth_of_members (member k v ms) = max (depth v) (depth_of_members ms)

abbrev pub is_too_large : Value → Bool
is_too_large v = nat_lt PARTS_LIMIT (parts v) || nat_lt LEVELS_LIMIT (depth v)
