-- What a worker has before it does the request at the front.
use Rattle.std.specs.Prelude.{◌≡◌, ◌≤◌, ℕ, List, [], Option, Some}
use Rattle.reg_connection.specs.TurnKinds.{kind_in}
use Rattle.reg_connection.specs.declared.turn_kinds.TurnKind.TheVariants as kinds
use Rattle.reg_serve.specs.declared.turns.Leave.{Leave}

-- where the bytes that are held ask for a command: no answer that isn't sent, room for so many bytes, and a turn of commands
abbrev pub IsReady : ℕ → List ℕ → List ℕ → ℕ → Option Leave → Type 0
IsReady least held unsent room leave = kind_in held ≡ Some kinds.Command
    → (unsent ≡ []) × (least ≤ room) × (leave ≡ Some (record { kind = kinds.Command }))
