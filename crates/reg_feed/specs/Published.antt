-- What of a feed's lists is published.
use Rattle.std.specs.Prelude.{◌≡◌, ◌⊎◌, List, []}

-- the list that a feed begins with, or one that its writer published
abbrev pub WasPublished : {T : Type 0} → (List T → Type 0) → List T → Type 0
WasPublished publishes list = (list ≡ []) ⊎ publishes list
