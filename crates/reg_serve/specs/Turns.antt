-- The turns of a node's workers at commands and at checks: how many there are, and which are free.
use Rattle.std.specs.Prelude.{ℕ, ◌+◌, ◌-◌, ◌≤◌, Bool, ◌&&◌, max, nat_lt}
use Rattle.reg_connection.specs.declared.turn_kinds.TurnKind.{TurnKind}
use Rattle.reg_connection.specs.declared.turn_kinds.TurnKind.TheVariants as kinds

-- the most, of so many workers, that are at requests of one kind
abbrev pub most_at_one : ℕ → ℕ
most_at_one workers = max 1 (workers - 2)

-- the most that are at requests of both kinds
abbrev pub most_at_both : ℕ → ℕ
most_at_both workers = max 2 (workers - 1)

-- how many workers a node has, and how many of them have a turn of each kind
pub record Counts : Type 0 where
  pub workers : ℕ
  pub commands : ℕ
  pub checks : ℕ

-- how many turns of a kind are taken
abbrev pub taken_of : TurnKind → Counts → ℕ
taken_of kinds.Command taken = taken.commands
taken_of kinds.Check taken = taken.checks

-- no more are taken than may be
pub record IsWithin (taken : Counts) : Type 0 where
  pub commands : taken.commands ≤ most_at_one taken.workers
  pub checks : taken.checks ≤ most_at_one taken.workers
  pub both : taken.commands + taken.checks ≤ most_at_both taken.workers

-- a turn is free: neither of its kind nor of both are as many taken as may be
abbrev pub is_free : TurnKind → Counts → Bool
is_free kind taken =
    nat_lt (taken_of kind taken) (most_at_one taken.workers) && nat_lt (taken.commands + taken.checks) (most_at_both taken.workers)

abbrev pub none_taken : ℕ → Counts
none_taken workers = record { workers = workers; commands = 0; checks = 0 }

abbrev pub with_one_more : TurnKind → Counts → Counts
with_one_more kinds.Command taken = record taken { commands = taken.commands + 1 }
with_one_more kinds.Check taken = record taken { checks = taken.checks + 1 }

abbrev pub with_one_less : TurnKind → Counts → Counts
with_one_less kinds.Command taken = record taken { commands = taken.commands - 1 }
with_one_less kinds.Check taken = record taken { checks = taken.checks - 1 }
