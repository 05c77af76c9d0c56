-- An answer on a connection, at whichever desk.
use Rattle.std.specs.Prelude.{◌≡◌, ℕ, List, Option, Some, None, Result}
use Rattle.std.specs.declared.alloc.AllocError.{AllocError}
use Rattle.reg_leader.specs.declared.command.Command.{Command}
use Rattle.reg_leader.specs.declared.reply.Reply.{Reply}
use Rattle.reg_lookup.specs.declared.answered.Answer.{Answer}
use Rattle.reg_lookup.specs.declared.query.Query.{Query}
use Rattle.reg_conversation.specs.Conversation.{AnswersAs, FailsFirst}
use Rattle.reg_http.specs.declared.outcome.RequestOutcome.{RequestOutcome}
use Rattle.reg_http.specs.declared.serving.ServeError.{ServeError}
use Rattle.reg_records.specs.declared.device.Device.{Device}

-- a desk has learnt of what the last answer on a connection stood on, if there was one
abbrev pub HasLearnt : {D S : Type 0} → (D → S → D → Type 0) → D → Option S → D → Type 0
HasLearnt learns old None told = told ≡ old
HasLearnt learns old (Some standing) told = learns old standing told

-- what a desk's last answer stands on goes with the connection
abbrev pub StandsOn : {D S : Type 0} → (D → S → Type 0) → D → Option S → Type 0
StandsOn {D} {S} stands new after = (standing : S) × (after ≡ Some standing) × stands new standing

-- why the request at the front wasn't answered by a desk that had first learnt of what the last answer stood on
abbrev pub FailsKnowing : {D S W : Type 0} → (D → Query → Result Answer AllocError → D → Type 0) → (D → Command → Reply → D → Type 0)
    → (D → S → D → Type 0) → D → Option S → Device W → Device W → List ℕ → Option (List ℕ) → Option (List ℕ) → D → ServeError → Type 0
FailsKnowing {D} asks commands learns old before writer writer' text out out' new e =
    (told : D) × HasLearnt learns old before told × FailsFirst asks commands writer writer' told text out out' new e

module _ {D S : Type 0} (asks : D → Query → Result Answer AllocError → D → Type 0) (commands : D → Command → Reply → D → Type 0)
    (stands : D → S → Type 0) (learns : D → S → D → Type 0) where
  -- the request at the front was answered by a desk that had first learnt of what the last answer stood on, and what became of it; what
  -- this answer stands on goes with the connection
  abbrev pub AnswersKnowing : D → Option S → List ℕ → Option (List ℕ) → Option (List ℕ) → Option S → List ℕ → D → RequestOutcome → Type 0
  AnswersKnowing old before held out out' after held' new outcome = (told : D) × HasLearnt learns old before told
      × AnswersAs asks commands told held out out' held' new outcome
      × ((standing : S) × (after ≡ Some standing) × stands new standing)
