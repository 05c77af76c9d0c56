-- A command steps, and a query is answered.
use Rattle.std.proofs.Common.{ℕ, suc, ◌+◌, List, [], length, nat_le, Bool, Option, Some, None, Result, Ok, Err, inl, inr, refl}
use Rattle.reg_leader.specs.reg_level_names.declared.level.Level.{Level}
use Rattle.reg_leader.specs.reg_levels.Texts.{VersionText}
use Rattle.reg_leader.specs.reg_records.declared.limits.TheConstants.{OFFSET_LIMIT}
use Rattle.reg_leader.specs.reg_records.declared.record.Record.{Record}
use Rattle.reg_leader.specs.reg_refusals.declared.refusal.Refusal.{Refusal}
use Rattle.reg_leader.specs.reg_fold.Entries.{entries}
use Rattle.reg_leader.specs.reg_fold.InForce.{level}
use Rattle.reg_leader.specs.reg_rules.Report.{IsReport}
use Rattle.reg_leader.specs.reg_rules.Writings.{numbered}
use Rattle.reg_leader.specs.Course.{Course, Refused, Does, IfMet, IsOutcome, if_offsets_last, incompatible}
use Rattle.reg_leader.specs.Step.{IsStep, course_of}
use Rattle.reg_leader.specs.declared.reply.Reply.{Reply}
use Rattle.reg_leader.specs.declared.reply.Reply.TheVariants as replies
use Rattle.reg_lookup.specs.Bodies.{answer_with, check_body}
use Rattle.reg_lookup.specs.Checked.{TellsVerdict, asked}
use Rattle.reg_lookup.specs.declared.answered.Answer.{Answer}
use Rattle.reg_lookup.specs.declared.query.Query.TheVariants as queries
use Rattle.reg_leader.specs.reg_levels.Message.{message_of}
use Rattle.reg_leader.specs.reg_levels.Texts.{nodes_in, versions_in}
use Rattle.reg_existence.specs.Steps.{AnswersExist, StepsExist}
use Rattle.reg_existence.specs.Verdicts.{LevelVerdictsExist, ReportsExist}

module _ (reports : ReportsExist) where
  -- a course comes to something
  abbrev ComesTo : ℕ → Course → Type 0
  ComesTo n c = (reply : Reply) × (batch : List Record) × IsOutcome n c reply batch

  where_met : (n : ℕ) (level : Level) (new : List ℕ) (olds : List VersionText) (rest : Course) (message : Option (List ℕ))
      → IsReport level new olds message → ComesTo n rest → ComesTo n (IfMet level new olds rest)
  where_met n level new olds rest None meets (reply, batch, is) = (reply, batch, inl (meets, is))
  where_met n level new olds rest (Some message) clash on = (replies.Refused (incompatible message), [], inr (message, clash, (refl, refl)))

  comes_to : (n : ℕ) (c : Course) → ComesTo n c
  comes_to n (Refused refusal) = (replies.Refused refusal, [], (refl, refl))
  comes_to n (Does does ws) =
      let done = if_offsets_last (nat_le (n + length ws) (suc OFFSET_LIMIT)) does (numbered n ws) in (done.0, done.1, refl)
  comes_to n (IfMet level new olds rest) =
      let (message, is) = reports level new olds in where_met n level new olds rest message is (comes_to n rest)

  pub steps_exist : StepsExist
  unfolding IsStep
  steps_exist rs n c = comes_to n (course_of rs n c)

module _ (verdicts : LevelVerdictsExist) where
  told : (level : Level) (text : List ℕ) (verbose : Bool) (found : Result (List VersionText) Refusal)
      → (a : Answer) × TellsVerdict level text verbose found a
  told level text verbose (Err refusal) = (answer_with (Err refusal), refl)
  told level text verbose (Ok olds) =
      let (v, is) = verdicts level (nodes_in text) (versions_in olds) in
      (answer_with (Ok (check_body verbose v.ok (message_of v))), (v, is, refl))

  pub answers_exist : AnswersExist
  answers_exist rs (queries.SchemaById id) = (_, refl)
  answers_exist rs (queries.IdVersions id deleted) = (_, refl)
  answers_exist rs (queries.Subjects deleted) = (_, refl)
  answers_exist rs (queries.Lookup subject text deleted) = (_, refl)
  answers_exist rs (queries.Versions subject deleted) = (_, refl)
  answers_exist rs (queries.Version subject which deleted) = (_, refl)
  answers_exist rs (queries.VersionSchema subject which deleted) = (_, refl)
  answers_exist rs (queries.Check subject which text verbose) =
      told (level rs (Some subject)) text verbose (asked (entries rs) subject which text)
  answers_exist rs (queries.Level subject default_global) = (_, refl)
  answers_exist rs (queries.Mode subject default_global) = (_, refl)
