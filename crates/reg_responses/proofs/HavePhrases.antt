-- The status of each response has a phrase.
use Rattle.std.proofs.Common.{◌≡◌, ℕ, List, refl, subst, sym}
use Rattle.std.specs.Prelude.{Bool, Some, Result, Ok, Err}
use Rattle.reg_leader.specs.declared.reply.Reply.TheVariants as replies
use Rattle.reg_leader.specs.reg_level_names.declared.level.Level.{Level}
use Rattle.reg_leader.specs.reg_levels.Message.{message_of}
use Rattle.reg_leader.specs.reg_levels.Texts.{VersionText}
use Rattle.reg_lookup.specs.Bodies.{answer_with, check_body}
use Rattle.reg_lookup.specs.ById.{schema_by_id, id_versions}
use Rattle.reg_lookup.specs.BySchema.{lookup}
use Rattle.reg_lookup.specs.BySubject.{subjects, versions, version, version_schema}
use Rattle.reg_lookup.specs.Checked.{TellsVerdict, asked}
use Rattle.reg_lookup.specs.Settings.{level_found, mode_found}
use Rattle.reg_lookup.specs.declared.answered.Answer.{Answer}
use Rattle.reg_lookup.specs.declared.query.Query.TheVariants as queries
use Rattle.reg_leader.specs.reg_fold.Entries.{entries}
use Rattle.reg_leader.specs.reg_fold.InForce.{level}
use Rattle.reg_leader.specs.reg_refusals.Refusal.{status_of}
use Rattle.reg_leader.specs.reg_refusals.declared.reason.StoreFault.{StoreFault}
use Rattle.reg_leader.specs.reg_refusals.declared.reason.StoreFault.TheVariants as faults
use Rattle.reg_leader.specs.reg_refusals.declared.refusal.Refusal.{Refusal}
use Rattle.reg_leader.specs.reg_refusals.declared.refusal.Refusal.TheVariants as refusals
use Rattle.reg_responses.specs.Phrases.{AnswersHavePhrases, HasPhrase, RefusalsHavePhrases, RepliesHavePhrases}
use Rattle.reg_responses.specs.Reply.{reply_answer}

of_fault : (fault : StoreFault) → HasPhrase (status_of (refusals.Store fault))
of_fault faults.Memory = refl
of_fault other = refl

pub of_refusal : RefusalsHavePhrases
of_refusal refusals.BadRequest = refl
of_refusal (refusals.Store fault) = of_fault fault
of_refusal other = refl

of_answer_with : (told : Result (List ℕ) Refusal) → HasPhrase (answer_with told).status
of_answer_with (Ok body) = refl
of_answer_with (Err refusal) = of_refusal refusal

of_told : (told : Result (List ℕ) Refusal) (a : Answer) → a ≡ answer_with told → HasPhrase a.status
of_told told a is = subst (λ b. HasPhrase b.status) (sym is) (of_answer_with told)

pub of_reply : RepliesHavePhrases
unfolding reply_answer
of_reply (replies.Refused refusal) = of_refusal refusal
of_reply other = refl

of_verdict : (level : Level) (text : List ℕ) (verbose : Bool) (olds : Result (List VersionText) Refusal) (a : Answer)
    → TellsVerdict level text verbose olds a → HasPhrase a.status
of_verdict level text verbose (Err refusal) a is = of_told (Err refusal) a is
of_verdict level text verbose (Ok olds) a (v, verdict, is) = of_told (Ok (check_body verbose v.ok (message_of v))) a is

pub of_answer : AnswersHavePhrases
of_answer rs (queries.SchemaById id) a is = of_told (schema_by_id rs id) a is
of_answer rs (queries.IdVersions id deleted) a is = of_told (id_versions (entries rs) id deleted) a is
of_answer rs (queries.Subjects deleted) a is = of_told (Ok (subjects (entries rs) deleted)) a is
of_answer rs (queries.Lookup subject text deleted) a is = of_told (lookup (entries rs) subject text deleted) a is
of_answer rs (queries.Versions subject deleted) a is = of_told (versions (entries rs) subject deleted) a is
of_answer rs (queries.Version subject which deleted) a is = of_told (version (entries rs) subject which deleted) a is
of_answer rs (queries.VersionSchema subject which deleted) a is = of_told (version_schema (entries rs) subject which deleted) a is
of_answer rs (queries.Check subject which text verbose) a is =
    of_verdict (level rs (Some subject)) text verbose (asked (entries rs) subject which text) a is
of_answer rs (queries.Level subject default_global) a is = of_told (level_found rs subject default_global) a is
of_answer rs (queries.Mode subject default_global) a is = of_told (mode_found rs subject default_global) a is
