-- Private: what is known of a sample before it is built, and how the outline of a type's sample follows from those of its parts.
use Rattle.std.specs.Prelude.{ℕ, suc, ◌+◌, min, max, List, [], ◌∷◌, Bool, ◌||◌, nat_lt}
use Rattle.std.specs.Prelude.{Option, Some, None, option_map, option_and_then, slice_get}
use Rattle.std.specs.Option.{option_or}
use Rattle.avro_schema.specs.declared.node.NodeId.{NodeId}
use Rattle.avro_schema.specs.declared.node.Field.{Field}
use Rattle.avro_schema.specs.declared.node.Node.{Node}
use Rattle.avro_schema.specs.declared.node.Node.TheVariants as kind
use Rattle.avro_data.specs.declared.limits.TheConstants.{PARTS_LIMIT, LEVELS_LIMIT}
use Rattle.avro_data.specs.declared.outline.Outline.{Outline}
use Rattle.avro_data.specs.Value.{Value, branch}
use Rattle.avro_data.specs.Size.{parts, depth}

abbrev pub branch_of : Value → ℕ
branch_of (branch k v) = k
branch_of _ = 0

abbrev pub outline_of : Value → Outline
outline_of v = record { parts = min (parts v) (PARTS_LIMIT + 1); levels = min (depth v) (LEVELS_LIMIT + 1); branch = branch_of v }

abbrev pub single : Outline
single = record { parts = 1; levels = 1; branch = 0 }

abbrev pub nothing : Outline
nothing = record { parts = 0; levels = 0; branch = 0 }

-- of values beside one another
abbrev pub beside : Outline → Outline → Outline
beside a b = record { parts = min (a.parts + b.parts) (PARTS_LIMIT + 1); levels = max a.levels b.levels; branch = 0 }

-- of the value around what is in it
abbrev pub around : ℕ → Outline → Outline
around k a = record { parts = min (a.parts + 1) (PARTS_LIMIT + 1); levels = min (a.levels + 1) (LEVELS_LIMIT + 1); branch = k }

abbrev pub is_over : Outline → Bool
is_over a = nat_lt PARTS_LIMIT a.parts || nat_lt LEVELS_LIMIT a.levels

abbrev pub outlined_fields : (NodeId → Option Outline) → Outline → List Field → Option Outline
outlined_fields given before [] = Some before
outlined_fields given before (f ∷ fs) = option_and_then (λ a. outlined_fields given (beside before a) fs) (given f.node)

abbrev pub outlined_branches : (NodeId → Option Outline) → ℕ → List NodeId → Option Outline
outlined_branches given k [] = None
outlined_branches given k (b ∷ bs) = option_or (option_map (around k) (given b)) (outlined_branches given (suc k) bs)

abbrev pub outlined : (NodeId → Option Outline) → Option Node → Option Outline
outlined given None = None
outlined given (Some (kind.Primitive p)) = Some single
outlined given (Some (kind.Fixed n al size)) = Some single
outlined given (Some (kind.Enum n al ss d)) = option_map (λ s. single) (slice_get ss 0)
outlined given (Some (kind.Array i)) = Some single
outlined given (Some (kind.Map i)) = Some single
outlined given (Some (kind.Record n al fs)) = option_map (around 0) (outlined_fields given nothing fs)
outlined given (Some (kind.Union bs)) = outlined_branches given 0 bs
