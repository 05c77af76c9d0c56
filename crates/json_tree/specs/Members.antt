-- Private: the order of an object's members while it is read.
use Rattle.std.specs.Prelude.{◌≡◌, ℕ, List, ⊤}
use Rattle.std.specs.Cmp.Lexicographic.{slice_cmp}
use Rattle.std.specs.Ordering.{nat_cmp}
use Rattle.std.specs.declared.cmp.Ordering.TheVariants.{Less}
use Rattle.serde_json.specs.Data.{Members, no_members, member}

-- the name is below each of those
abbrev pub IsBelow : List ℕ → Members → Type 0
IsBelow k no_members = ⊤
IsBelow k (member l d ms) = (slice_cmp nat_cmp k l ≡ Less) × IsBelow k ms

-- the names rise, so each is there once
abbrev pub IsInOrder : Members → Type 0
IsInOrder no_members = ⊤
IsInOrder (member k d ms) = IsBelow k ms × IsInOrder ms
