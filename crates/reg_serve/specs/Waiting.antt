-- Who takes up a turn that is free.
use Rattle.std.specs.Prelude.{◌≡◌, ◌⊎◌, List, [], ◌∷◌, true, false, Option, Some, None}
use Rattle.reg_connection.specs.declared.turn_kinds.TurnKind.{TurnKind}
use Rattle.reg_serve.specs.Turns.{Counts, is_free, with_one_more}

-- who has waited longest takes a turn, if one is free
abbrev pub TakesUp : {C : Type 0} → TurnKind → Counts → Counts → List C → List C → Option (TurnKind × C) → Type 0
TakesUp kind old new before after None = (new ≡ old) × (after ≡ before) × ((before ≡ []) ⊎ (is_free kind old ≡ false))
TakesUp kind old new before after (Some (given, next)) =
    (given ≡ kind) × (is_free kind old ≡ true) × (new ≡ with_one_more kind old) × (before ≡ next ∷ after)
