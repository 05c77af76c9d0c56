-- What one step of a server does, and where it stands between two steps.
use Rattle.std.specs.Prelude.{◌≡◌, ◌⊎◌, ⊤, ℕ, List, Bool, true, false, ◌||◌, length, Option, Some, None, IfSome, Result, Ok, Err}
use Rattle.std.specs.Io.KnownBytes.{Appends, Keeps}
use Rattle.std.specs.declared.alloc.AllocError.{AllocError}
use Rattle.reg_leader.specs.declared.command.Command.{Command}
use Rattle.reg_leader.specs.declared.reply.Reply.{Reply}
use Rattle.reg_lookup.specs.declared.answered.Answer.{Answer}
use Rattle.reg_lookup.specs.declared.query.Query.{Query}
use Rattle.reg_records.specs.Device.{begun_of, faults_of, place_of}
use Rattle.reg_records.specs.declared.device.Device.{Device}
use Rattle.httparse.specs.Grammar.{RequestHead}
use Rattle.reg_messages.specs.Head.{IsHead, front_of, head, over}
use Rattle.reg_messages.specs.Parts.{Parts}
use Rattle.reg_messages.specs.Reading.{IsRefusedAt, TakesShort}
use Rattle.reg_refusals.specs.Refusal.{no_memory, status_of}
use Rattle.reg_refusals.specs.declared.refusal.Refusal.{Refusal}
use Rattle.reg_requests.specs.declared.asked.Asked.{Asked}
use Rattle.reg_requests.specs.declared.asked.Asked.TheVariants as asked
use Rattle.reg_responses.specs.Reply.{reply_answer}
use Rattle.reg_responses.specs.Response.{StatesStatus, answer_text, memory_text, refusal_text}
use Rattle.reg_responses.specs.Writing.{AppendsFront, IsLostSince, LosesWriter}
use Rattle.reg_requests.specs.reg_routes.Endpoint.{endpoint_of, nowhere}
use Rattle.reg_requests.specs.reg_routes.declared.endpoint.Endpoint.{Endpoint}
use Rattle.reg_http.specs.Serve.{LosesRequest, all_of, left_if, Answers, AnswersFirst}
use Rattle.reg_http.specs.declared.attending.Attended.{Attended}
use Rattle.reg_http.specs.declared.attending.Attended.TheVariants as attended
use Rattle.reg_http.specs.declared.doing.Done.{Done}
use Rattle.reg_http.specs.declared.doing.Done.TheVariants as dones
use Rattle.reg_http.specs.declared.outcome.RequestOutcome.{RequestOutcome}
use Rattle.reg_http.specs.declared.serving.ServeError.{ServeError}
use Rattle.reg_http.specs.declared.serving.ServeError.TheVariants as errors

-- the response to what was done, where the client wants the connection closed or not
abbrev pub done_text : Bool → Done → List ℕ
done_text wants (dones.Answered answer) = answer_text wants answer
done_text wants (dones.Replied reply) = answer_text wants (reply_answer reply)
done_text wants (dones.Refused refusal ends) = refusal_text (wants || ends) refusal
done_text wants dones.NoMemory = memory_text wants

-- whether the server closes the connection after it
abbrev pub done_closes : Bool → Done → Bool
done_closes wants (dones.Answered answer) = wants
done_closes wants (dones.Replied reply) = wants
done_closes wants (dones.Refused refusal ends) = wants || ends
done_closes wants dones.NoMemory = wants

-- the status of the response
abbrev pub done_status : Done → ℕ
done_status (dones.Answered answer) = answer.status
done_status (dones.Replied reply) = (reply_answer reply).status
done_status (dones.Refused refusal ends) = status_of refusal
done_status dones.NoMemory = status_of no_memory

-- where a request goes, of which that was done: where its method and its target say, or nowhere, where memory was refused before
abbrev pub GoesBy : Parts → Endpoint → Done → Type 0
GoesBy parts endpoint done = (endpoint ≡ endpoint_of parts.method parts.target) ⊎ ((endpoint ≡ nowhere) × (done ≡ dones.NoMemory))

-- where the request at the front of a text goes, to which that is the response: where the method and the target of its head say; or
-- nowhere, where no message could be read there, or memory was refused
abbrev pub GoesTo : List ℕ → List ℕ → Endpoint → Type 0
GoesTo text out endpoint =
    ((bytes : List ℕ) × (after : List ℕ) × (h : RequestHead) × (front_of text ≡ head bytes after) × IsHead bytes h
    × (endpoint ≡ endpoint_of h.method h.target))
    ⊎ ((endpoint ≡ nowhere) × (((refusal : Refusal) × IsRefusedAt text refusal × (out ≡ refusal_text true refusal))
    ⊎ ((closes : Bool) × (out ≡ memory_text closes))))

-- what became of the request at the front of a text, to which that is the response
pub record IsOutcome (text out : List ℕ) (outcome : RequestOutcome) : Type 0 where
  pub status : StatesStatus out outcome.status
  pub endpoint : GoesTo text out outcome.endpoint

module _ {D : Type 0} (asks : D → Query → Result Answer AllocError → D → Type 0) (commands : D → Command → Reply → D → Type 0) where
  -- what was done of what a request asks; where memory was refused, the desk refused it or wasn't asked
  abbrev pub Did : D → Asked → D → Done → Type 0
  Did old a new (dones.Answered answer) = (query : Query) × (a ≡ asked.Query query) × asks old query (Ok answer) new
  Did old a new (dones.Replied reply) = (command : Command) × (a ≡ asked.Command command) × commands old command reply new
  Did old a new (dones.Refused refusal ends) = (a ≡ asked.Refused refusal ends) × (new ≡ old)
  Did old a new dones.NoMemory =
      ((query : Query) × (refused : AllocError) × (a ≡ asked.Query query) × asks old query (Err refused) new) ⊎ (new ≡ old)

  -- the next request was read, and done at the desk; what is left stands after it, where the connection goes on
  abbrev pub Attends : D → List ℕ → Option (List ℕ) → D → Attended → Type 0
  Attends old text left new attended.Over = (front_of text ≡ over) × (new ≡ old)
  Attends old text left new (attended.Done endpoint done wants) =
      (rest : List ℕ) × (done_closes wants done ≡ false → left ≡ Some rest)
      × AnswersFirst asks commands old (Some text) (done_text wants done) new (left_if (done_closes wants done) rest)
      × GoesTo text (done_text wants done) endpoint

  -- the first requests of a text were answered, and what the reader has is left
  abbrev pub HasAnswered : D → Option (List ℕ) → ℕ → Option (List ℕ) → Option (List ℕ) → Option (List ℕ) → D → Type 0
  HasAnswered old None count before after left new = ⊤
  HasAnswered old (Some text) count before after left new =
      (outs : List (List ℕ)) × (rest : List ℕ) × (left ≡ Some rest) × Answers asks commands old (Some text) outs new (Some rest)
      × (count ≡ length outs) × Appends before after (all_of outs)

  -- what one step did: it found no request, or answered one after which the connection is closed or goes on
  abbrev pub Steps : D → List ℕ → Option (List ℕ) → Option (List ℕ) → Option (List ℕ) → D → Option RequestOutcome → Type 0
  Steps old text before after left new None = (front_of text ≡ over) × (new ≡ old) × Keeps before after
  Steps old text before after left new (Some outcome) =
      (out : List ℕ) × (rest : List ℕ) × (outcome.closes ≡ false → left ≡ Some rest)
      × AnswersFirst asks commands old (Some text) out new (left_if outcome.closes rest) × Appends before after out
      × IsOutcome text out outcome

  -- the first request of a text was done, and the writer was lost, which has a front of the response
  abbrev pub LosesStep : {W : Type 0} → Device W → Device W → D → List ℕ → Option (List ℕ) → Option (List ℕ) → D → Type 0
  LosesStep writer writer' old text before after new = LosesWriter writer writer'
      × (out : List ℕ) × (rest : Option (List ℕ)) × AnswersFirst asks commands old (Some text) out new rest × AppendsFront before after out

  -- why one request wasn't answered; its reads were counted from its front on
  abbrev pub IsStepRefusal : {R W : Type 0} → Device R → Device R → Device W → Device W
      → Option (List ℕ) → Option (List ℕ) → Option (List ℕ) → Option (List ℕ) → D → D → ServeError → Type 0
  IsStepRefusal reader reader' writer writer' input left before after old new errors.ReadFault =
      LosesRequest reader reader' × (faults_of writer' ≡ faults_of writer) × IfSome input (λ text. TakesShort text left)
      × (new ≡ old) × Keeps before after
      × (begun_of reader' ≡ place_of reader)
  IsStepRefusal reader reader' writer writer' input left before after old new errors.WriteFault =
      LosesWriter writer writer' × IsLostSince writer writer' × (faults_of reader' ≡ faults_of reader)
      × IfSome input (λ text. (out : List ℕ) × (rest : Option (List ℕ))
      × AnswersFirst asks commands old (Some text) out new rest × AppendsFront before after out)
