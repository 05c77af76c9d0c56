-- No batch that a command writes is missed.
use Rattle.std.specs.Prelude.{◌≡◌, ℕ, List, ◌∷◌, Some}
use Rattle.reg_leader.specs.reg_modes.InForce.{mode}
use Rattle.reg_leader.specs.reg_records.declared.record.Record.{Record}
use Rattle.reg_leader.specs.reg_set.LastRecords.{last_records}
use Rattle.reg_leader.specs.reg_set.Records.{Records}
use Rattle.reg_leader.specs.Step.{IsStep}
use Rattle.reg_leader.specs.declared.command.Command.{Command}
use Rattle.reg_leader.specs.declared.reply.Reply.{Reply}
use Rattle.reg_replay.specs.Candidate.{candidate}

-- some command writes this batch from these records at this offset, whatever it replies
abbrev pub Writes : Records → ℕ → Command → List Record → Type 0
Writes rs n c batch = (reply : Reply) × IsStep rs n c reply batch

-- Over the last records of any set: where any command writes a batch, its candidate does.
abbrev pub BatchesAreOfCandidates : Type 0
BatchesAreOfCandidates = (whole : Records) (n : ℕ) (c : Command) (r : Record) (more : List Record)
    → Writes (last_records whole) n c (r ∷ more)
    → (d : Command) × (candidate (mode (last_records whole)) (r ∷ more) ≡ Some d) × Writes (last_records whole) n d (r ∷ more)
