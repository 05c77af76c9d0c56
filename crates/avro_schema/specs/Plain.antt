-- Private: what JSON values that were read from a text are, where no number in them is a float.
use Rattle.std.specs.Prelude.{◌≡◌, ◌<◌, ◌≤◌, ◌^◌, pos, negsuc, false}
use Rattle.serde_json.specs.Data.{Num, unsigned, negative, float, Data, null, boolean, number, string}
use Rattle.serde_json.specs.Data.{array, object, Items, no_items, item, Members, no_members, member, depth}
use Rattle.serde_json.specs.Read.{max_depth}
use Rattle.serde_json.specs.Written.{has_float}
use Rattle.json_tree.specs.Members.{IsInOrder}

-- an integer fits 64 bits, and one that is held as negative is so
abbrev pub Fits : Num → Type 0
Fits (unsigned n) = n < 2 ^ 64
Fits (negative (pos n)) = ⊥
Fits (negative (negsuc n)) = n < 2 ^ 63
Fits (float x) = Unit {0}

-- at each depth the names of an object's members rise, and numbers fit
abbrev mutual
  pub IsOrderly : Data → Type 0
  IsOrderly null = Unit {0}
  IsOrderly (boolean b) = Unit {0}
  IsOrderly (number n) = Fits n
  IsOrderly (string s) = Unit {0}
  IsOrderly (array ds) = ItemsAreOrderly ds
  IsOrderly (object ms) = IsInOrder ms × MembersAreOrderly ms

  pub ItemsAreOrderly : Items → Type 0
  ItemsAreOrderly no_items = Unit {0}
  ItemsAreOrderly (item d ds) = IsOrderly d × ItemsAreOrderly ds

  pub MembersAreOrderly : Members → Type 0
  MembersAreOrderly no_members = Unit {0}
  MembersAreOrderly (member k d ms) = IsOrderly d × MembersAreOrderly ms

-- what is read from a text, and has no float
abbrev pub IsPlain : Data → Type 0
IsPlain d = (has_float d ≡ false) × IsOrderly d × (depth d ≤ max_depth)
