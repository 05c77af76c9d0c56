-- Each command steps and each query is answered, whatever was written before.
use Rattle.std.specs.Prelude.{ℕ, List}
use Rattle.reg_leader.specs.reg_records.declared.record.Record.{Record}
use Rattle.reg_leader.specs.reg_set.Records.{Records}
use Rattle.reg_leader.specs.Step.{IsStep}
use Rattle.reg_leader.specs.declared.command.Command.{Command}
use Rattle.reg_leader.specs.declared.reply.Reply.{Reply}
use Rattle.reg_lookup.specs.Answers.{IsAnswer}
use Rattle.reg_lookup.specs.declared.answered.Answer.{Answer}
use Rattle.reg_lookup.specs.declared.query.Query.{Query}

-- a command has a reply and a batch, over any records and at any next offset
abbrev pub StepsExist : Type 0
StepsExist = (rs : Records) (n : ℕ) (c : Command) → (reply : Reply) × (batch : List Record) × IsStep rs n c reply batch

-- a query has an answer, over any records
abbrev pub AnswersExist : Type 0
AnswersExist = (rs : Records) (query : Query) → (a : Answer) × IsAnswer rs query a
