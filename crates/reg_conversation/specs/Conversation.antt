-- What is answered on a connection, of whose text only a front has come.
use Rattle.std.specs.Prelude.{◌≡◌, ◌<◌, ◌≤◌, ℕ, List, ◌++◌, Bool, true, false, not, length, Option, Some, None, Result}
use Rattle.std.specs.Io.KnownBytes.{Appends, Keeps}
use Rattle.std.specs.declared.alloc.AllocError.{AllocError}
use Rattle.reg_leader.specs.declared.command.Command.{Command}
use Rattle.reg_leader.specs.declared.reply.Reply.{Reply}
use Rattle.reg_lookup.specs.declared.answered.Answer.{Answer}
use Rattle.reg_lookup.specs.declared.query.Query.{Query}
use Rattle.reg_records.specs.declared.device.Device.{Device}
use Rattle.reg_messages.specs.Head.{front_of}
use Rattle.reg_messages.specs.FrontRead.{IsFrontOf}
use Rattle.reg_messages.specs.Reading.{IsShort}
use Rattle.reg_messages.specs.declared.front.FrontRead.{FrontRead}
use Rattle.reg_responses.specs.Writing.{LosesWriter}
use Rattle.reg_messages.specs.Extent.{TakesInAll}
use Rattle.reg_http.specs.Serve.{all_of, Answers, AnswersFirst, IsOutput, IsOver, StopsInNext}
use Rattle.reg_http.specs.ServeSteps.{IsOutcome, LosesStep}
use Rattle.reg_http.specs.declared.limits.TheConstants.{REQUESTS_LIMIT}
use Rattle.reg_http.specs.declared.outcome.RequestOutcome.{RequestOutcome}
use Rattle.reg_http.specs.declared.serving.ServeError.{ServeError}
use Rattle.reg_http.specs.declared.serving.ServeError.TheVariants as errors

-- the request that begins with these bytes takes so many in all
abbrev pub IsNeeded : List ℕ → ℕ → Type 0
IsNeeded held n = (0 < n) × TakesInAll held n

-- that is what was read of the request which begins with these bytes
abbrev pub IsKnownFront : List ℕ → FrontRead → Type 0
IsKnownFront held front = IsNeeded held front.len × IsFrontOf held front

-- what is left after some requests: the bytes after them, where the connection goes on
abbrev pub left_of : Bool → List ℕ → Option (List ℕ)
left_of true rest = Some rest
left_of false rest = None

-- what became of what is held last: nothing was written, as no request was begun, or a response
abbrev pub EndsAs : List ℕ → Option (List ℕ) → Option (List ℕ) → Option RequestOutcome → Type 0
EndsAs held before after None = Keeps before after
EndsAs held before after (Some outcome) = (out : List ℕ) × Appends before after out × IsOutcome held out outcome

module _ {D : Type 0} (asks : D → Query → Result Answer AllocError → D → Type 0) (commands : D → Command → Reply → D → Type 0) where
  -- one response was written: whatever comes later, it is that to the first request of the whole text, and what is held then stands
  -- after it, or the connection is closed
  abbrev pub AnswersHeld : D → List ℕ → Option (List ℕ) → Option (List ℕ) → List ℕ → D → Bool → Type 0
  AnswersHeld old held before after held' new goes = (out : List ℕ) × Appends before after out
      × ((more : List ℕ) → AnswersFirst asks commands old (Some (held ++ more)) out new (left_of goes (held' ++ more)))

  -- the same, and what became of that request, behind which what is held then stands
  abbrev pub AnswersAs : D → List ℕ → Option (List ℕ) → Option (List ℕ) → List ℕ → D → RequestOutcome → Type 0
  AnswersAs old held before after held' new outcome = (out : List ℕ) × Appends before after out
      × ((more : List ℕ) → AnswersFirst asks commands old (Some (held ++ more)) out new (left_of (not outcome.closes) (held' ++ more)))
      × ((request : List ℕ) × (held ≡ request ++ held') × IsOutcome request out outcome)

  -- whatever comes later, these are the responses to the first requests of the whole text, of which so much came
  abbrev pub HasConversed : D → List ℕ → List (List ℕ) → D → List ℕ → Bool → Type 0
  HasConversed old came outs new held goes =
      (more : List ℕ) → Answers asks commands old (Some (came ++ more)) outs new (left_of goes (held ++ more))

  -- the responses to some first requests were written
  abbrev pub AnswersSome : D → List ℕ → Option (List ℕ) → Option (List ℕ) → List ℕ → D → Bool → Type 0
  AnswersSome old came before after held new goes =
      (outs : List (List ℕ)) × HasConversed old came outs new held goes × Appends before after (all_of outs)

  -- those to all requests that are whole: what is held is short of one, or the connection is closed
  abbrev pub AnswersWhole : D → List ℕ → Option (List ℕ) → Option (List ℕ) → List ℕ → D → Bool → Type 0
  AnswersWhole old came before after held new goes =
      AnswersSome old came before after held new goes × (goes ≡ true → IsShort (front_of held))

  -- the responses to all requests of a text were written, up to one that closes the connection; they are the output of `serve`
  -- where they are no more than one call of it may answer
  abbrev pub RepliesAll : D → List ℕ → Option (List ℕ) → Option (List ℕ) → D → Type 0
  RepliesAll old text before after new =
      (outs : List (List ℕ)) × (left : Option (List ℕ)) × Answers asks commands old (Some text) outs new left × IsOver asks commands left
      × (length outs ≤ REQUESTS_LIMIT → IsOutput asks commands old text (length outs) (all_of outs) new)
      × Appends before after (all_of outs)

  -- why the first request of a text wasn't answered: it was done, and the writer was lost, which has a front of the response. There is no
  -- other reason: a request that is held is read from no reader
  abbrev pub FailsFirst : {W : Type 0} → Device W → Device W → D → List ℕ → Option (List ℕ) → Option (List ℕ) → D → ServeError → Type 0
  FailsFirst writer writer' old text before after new errors.ReadFault = ⊥
  FailsFirst writer writer' old text before after new errors.WriteFault = LosesStep asks commands writer writer' old text before after new

  -- why no more of a text was answered, and what was written by then
  abbrev pub Stops : {W : Type 0} → Device W → Device W → D → List ℕ → Option (List ℕ) → Option (List ℕ) → D → ServeError → Type 0
  Stops writer writer' old text before after new errors.ReadFault = ⊥
  Stops writer writer' old text before after new errors.WriteFault =
      LosesWriter writer writer' × (outs : List (List ℕ)) × StopsInNext asks commands old text outs before after new
