-- Lists in which no two elements are the same.
use Rattle.std.specs.Prelude.{List, [], ◌∷◌, Bool, true, ◌&&◌, not}
use Rattle.std.specs.List.{list_any}

-- no element is the same as one after it
abbrev pub all_distinct : {X : Type 0} → (X → X → Bool) → List X → Bool
all_distinct same [] = true
all_distinct same (x ∷ xs) = not (list_any (same x) xs) && all_distinct same xs
