-- What a decision comes to. It may be refused memory.
use Rattle.std.specs.Prelude.{◌≡◌, ◌⊎◌, ℕ, [], Result, Ok, Err}
use Rattle.reg_rules.specs.reg_set.Records.{Records}
use Rattle.reg_leader.specs.Course.{Course, IsOutcome}
use Rattle.reg_rules.specs.reg_refusals.Refusal.{no_memory}
use Rattle.reg_leader.specs.Step.{IsStep}
use Rattle.reg_leader.specs.declared.command.Command.{Command}
use Rattle.reg_leader.specs.declared.decision.Decision.{Decision}
use Rattle.reg_rules.specs.reg_refusals.declared.refusal.Refusal.{Refusal}
use Rattle.reg_leader.specs.declared.reply.Reply.TheVariants as replies

-- a course comes to that decision
abbrev pub Concludes : ℕ → Course → Result Decision Refusal → Type 0
Concludes n course (Ok decision) = IsOutcome n course decision.reply decision.batch
Concludes n course (Err refusal) = (refusal ≡ no_memory) ⊎ IsOutcome n course (replies.Refused refusal) []

-- a whole command does
abbrev pub Decides : Records → ℕ → Command → Result Decision Refusal → Type 0
Decides rs n command (Ok decision) = IsStep rs n command decision.reply decision.batch
Decides rs n command (Err refusal) = (refusal ≡ no_memory) ⊎ IsStep rs n command (replies.Refused refusal) []

-- memory was refused: nothing is written
abbrev pub IsOutOfMemory : Decision → Type 0
IsOutOfMemory decision = (decision.reply ≡ replies.Refused no_memory) × (decision.batch ≡ [])
