-- Each response has a status with a phrase.
use Rattle.std.specs.Prelude.{ℕ, IsSome}
use Rattle.http.specs.StatusCode.{reason_phrase}
use Rattle.reg_leader.specs.declared.reply.Reply.{Reply}
use Rattle.reg_lookup.specs.Answers.{IsAnswer}
use Rattle.reg_lookup.specs.declared.answered.Answer.{Answer}
use Rattle.reg_lookup.specs.declared.query.Query.{Query}
use Rattle.reg_leader.specs.reg_refusals.Refusal.{status_of}
use Rattle.reg_leader.specs.reg_refusals.declared.refusal.Refusal.{Refusal}
use Rattle.reg_leader.specs.reg_set.Records.{Records}
use Rattle.reg_responses.specs.Reply.{reply_answer}

abbrev pub HasPhrase : ℕ → Type 0
HasPhrase status = IsSome (reason_phrase status)

abbrev pub RefusalsHavePhrases : Type 0
RefusalsHavePhrases = (refusal : Refusal) → HasPhrase (status_of refusal)

abbrev pub RepliesHavePhrases : Type 0
RepliesHavePhrases = (reply : Reply) → HasPhrase (reply_answer reply).status

abbrev pub AnswersHavePhrases : Type 0
AnswersHavePhrases = (rs : Records) (query : Query) (a : Answer) → IsAnswer rs query a → HasPhrase a.status
