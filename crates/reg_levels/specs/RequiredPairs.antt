-- The pairs of schemas that a level requires to be compatible. Old versions stand by ascending version.
use Rattle.std.specs.Prelude.{ℕ, ◌-◌, List, [], ◌∷◌, length, map, reverse, drop, flat_map}
use Rattle.std.specs.List.Sorted.{IsStrictlyIncreasing}
use Rattle.avro_resolve.specs.avro_schema.declared.node.Node.{Node}
use Rattle.reg_level_names.specs.declared.level.Level.{Level}
use Rattle.reg_level_names.specs.declared.level.Level.TheVariants as levels
use Rattle.reg_levels.specs.declared.direction.Direction.{Direction}
use Rattle.reg_levels.specs.declared.direction.Direction.TheVariants.{Backward, Forward}

-- the directions in which a level asks, Backward before Forward
abbrev pub directions : Level → List Direction
directions levels.None = []
directions levels.Backward = Backward ∷ []
directions levels.BackwardTransitive = Backward ∷ []
directions levels.Forward = Forward ∷ []
directions levels.ForwardTransitive = Forward ∷ []
directions levels.Full = Backward ∷ Forward ∷ []
directions levels.FullTransitive = Backward ∷ Forward ∷ []

-- how many of so many old versions a level doesn't look at, which are the first ones: all, all but the greatest, or none
abbrev pub passed_over : Level → ℕ → ℕ
passed_over levels.None count = count
passed_over levels.Backward count = count - 1
passed_over levels.BackwardTransitive count = 0
passed_over levels.Forward count = count - 1
passed_over levels.ForwardTransitive count = 0
passed_over levels.Full count = count - 1
passed_over levels.FullTransitive count = 0

-- a version, and the nodes of its schema
abbrev pub Version : Type 0
Version = ℕ × List Node

-- each version is smaller than the next one
abbrev pub HasRisingVersions : {X : Type 0} → List (ℕ × X) → Type 0
HasRisingVersions olds = IsStrictlyIncreasing (map (λ old. old.0) olds)

-- the old versions that a level looks at; the greatest one stands last
abbrev pub looked_at : {X : Type 0} → Level → List X → List X
looked_at level olds = drop (passed_over level (length olds)) olds

-- a pair that is required, and the version and direction that it is required for
pub record Required : Type 0 where
  pub version : ℕ
  pub direction : Direction
  pub reader : List Node
  pub writer : List Node

-- Backward the new schema reads the old one, and Forward the old one reads the new
abbrev pub required : List Node → Version → Direction → Required
required new old Backward = record { version = old.0; direction = Backward; reader = new; writer = old.1 }
required new old Forward = record { version = old.0; direction = Forward; reader = old.1; writer = new }

abbrev pub required_of : Level → List Node → Version → List Required
required_of level new old = map (required new old) (directions level)

-- the pairs that a level requires, from the greatest version down, Backward before Forward
abbrev pub required_pairs : Level → List Node → List Version → List Required
required_pairs level new olds = flat_map (required_of level new) (reverse (looked_at level olds))
