-- Sets of last records that give the same take commands alike.
use Rattle.std.specs.Prelude.{◌↔◌, ℕ, List}
use Rattle.reg_leader.specs.reg_records.declared.record.Record.{Record}
use Rattle.reg_leader.specs.reg_set.LastRecords.{last_records}
use Rattle.reg_leader.specs.reg_set.Records.{Records}
use Rattle.reg_floored.specs.Compaction.{IsCompactionOf}
use Rattle.reg_floored.specs.Floored.{Floored}
use Rattle.reg_leader.specs.Step.{IsStep}
use Rattle.reg_leader.specs.declared.command.Command.{Command}
use Rattle.reg_leader.specs.declared.reply.Reply.{Reply}
use Rattle.reg_leader.specs.reg_fold.GiveAlike.{GiveAlike}

-- each command has the same reply and the same batch over both, at each next offset
abbrev pub StepsAlike : Type 0
StepsAlike = (rs ss : Records) → GiveAlike rs ss → (n : ℕ) (c : Command) (reply : Reply) (batch : List Record)
    → IsStep rs n c reply batch ↔ IsStep ss n c reply batch

-- so over a set and each of its compactions, at whatever floor
abbrev pub CompactionsStepAlike : Type 0
CompactionsStepAlike = (part whole : Floored) → IsCompactionOf part whole → (n : ℕ) (c : Command) (reply : Reply) (batch : List Record)
    → IsStep (last_records part.records) n c reply batch ↔ IsStep (last_records whole.records) n c reply batch
