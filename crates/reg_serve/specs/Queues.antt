-- Who waits for a turn, and who goes on once one has ended.
use Rattle.std.specs.Prelude.{◌≡◌, ◌⊎◌, List, [], ◌∷◌, Option, Some}
use Rattle.reg_connection.specs.declared.turn_kinds.TurnKind.{TurnKind}
use Rattle.reg_connection.specs.declared.turn_kinds.TurnKind.TheVariants as kinds
use Rattle.reg_serve.specs.Turns.{with_one_less}
use Rattle.reg_serve.specs.Waiting.{TakesUp}
use Rattle.reg_serve.specs.declared.queues.Queues.{Queues}

abbrev pub other_of : TurnKind → TurnKind
other_of kinds.Command = kinds.Check
other_of kinds.Check = kinds.Command

module _ {C : Type 0} where
  -- who waits for a turn of a kind
  abbrev pub waiting_of : TurnKind → Queues C → List C
  waiting_of kinds.Command queues = queues.commands.items
  waiting_of kinds.Check queues = queues.checks.items

  -- one that waits for a turn of the same kind takes it over; where none does, a turn is taken no longer, and one of the other kind
  -- may be taken up
  abbrev pub EndsTurn : TurnKind → Queues C → Queues C → Option (TurnKind × C) → Type 0
  EndsTurn kind old new result =
      ((next : C) × (result ≡ Some (kind, next)) × (waiting_of kind old ≡ next ∷ waiting_of kind new) × (new.taken ≡ old.taken)
      × (waiting_of (other_of kind) new ≡ waiting_of (other_of kind) old))
      ⊎ ((waiting_of kind old ≡ []) × (waiting_of kind new ≡ [])
      × TakesUp (other_of kind) (with_one_less kind old.taken) new.taken (waiting_of (other_of kind) old) (waiting_of (other_of kind) new) result)
