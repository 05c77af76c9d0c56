-- The responses to the requests of a text.
use Rattle.std.specs.Prelude.{◌≡◌, ◌⊎◌, ◌≤◌, ◌<◌, ◌+◌, ◌*◌, ⊤, ℕ, List, [], ◌∷◌, ◌++◌, Bool, true, false, ◌||◌}
use Rattle.std.specs.Prelude.{length, Option, Some, None, IfSome, IsOk, Result, Ok, Err, if◌then◌else◌}
use Rattle.std.specs.List.{flat_map}
use Rattle.std.specs.Io.KnownBytes.{Appends}
use Rattle.std.specs.declared.alloc.AllocError.{AllocError}
use Rattle.httparse.specs.Grammar.{RequestHead}
use Rattle.reg_leader.specs.declared.command.Command.{Command}
use Rattle.reg_leader.specs.declared.reply.Reply.{Reply}
use Rattle.reg_lookup.specs.declared.answered.Answer.{Answer}
use Rattle.reg_lookup.specs.declared.query.Query.{Query}
use Rattle.reg_records.specs.Device.{BeganAt, HasReadMore, all_reads_of, counted, faults_of, reads_of}
use Rattle.reg_records.specs.declared.device.Device.{Device}
use Rattle.reg_refusals.specs.declared.refusal.Refusal.{Refusal}
use Rattle.reg_refusals.specs.declared.refusal.Refusal.TheVariants as refusals
use Rattle.reg_messages.specs.Fields.{told_length}
use Rattle.reg_messages.specs.Head.{Front, over, head, no_head, front_of, IsHead, IsNoHead}
use Rattle.reg_messages.specs.Messages.{after_body, fields_of, wants_close}
use Rattle.reg_messages.specs.Reading.{TakesShort}
use Rattle.reg_messages.specs.declared.limits.TheConstants.{REQUEST_READS}
use Rattle.reg_requests.specs.Asked.{asked_of}
use Rattle.reg_requests.specs.declared.asked.Asked.{Asked}
use Rattle.reg_requests.specs.declared.asked.Asked.TheVariants as asked
use Rattle.reg_responses.specs.Reply.{reply_answer}
use Rattle.reg_responses.specs.Response.{answer_text, memory_text, refusal_text}
use Rattle.reg_responses.specs.Writing.{IsLostSince, LosesWriter}
use Rattle.reg_http.specs.Requests.{request_of}
use Rattle.reg_http.specs.declared.limits.TheConstants.{REQUESTS_LIMIT}
use Rattle.reg_http.specs.declared.serving.ServeError.{ServeError}
use Rattle.reg_http.specs.declared.serving.ServeError.TheVariants as errors

-- one fault was counted, or none was, and since then as many reads were made as may be for one request
abbrev pub LosesRequest : {R : Type 0} → Device R → Device R → Type 0
LosesRequest before after = (faults_of after ≡ counted (faults_of before)) ⊎ ((faults_of after ≡ faults_of before)
    × (reads_of after ≡ REQUEST_READS) × HasReadMore before after REQUEST_READS)

-- no more reads were made than for so many requests
abbrev pub ReadsForRequests : {R : Type 0} → Device R → Device R → ℕ → Type 0
ReadsForRequests before after count = all_reads_of after ≤ all_reads_of before + count * REQUEST_READS

-- what is left to be read: none where the server closed the connection
abbrev pub left_if : Bool → List ℕ → Option (List ℕ)
left_if closes rest = if closes then None else Some rest

-- the response to a query, or that memory was refused
abbrev pub query_text : Bool → Result Answer AllocError → List ℕ
query_text closes (Ok answer) = answer_text closes answer
query_text closes (Err refused) = memory_text closes

-- the responses, one after the other
abbrev pub all_of : List (List ℕ) → List ℕ
all_of outs = flat_map (λ out. out) outs

module _ {D : Type 0} (asks : D → Query → Result Answer AllocError → D → Type 0) (commands : D → Command → Reply → D → Type 0) where
  -- what a request asks is done at the desk, and answered; the client wants the connection closed or not
  abbrev pub Does : D → Asked → Bool → List ℕ → Bool → D → Type 0
  Does old (asked.Query query) wants out closes new =
      (answer : Result Answer AllocError) × asks old query answer new × (out ≡ query_text wants answer) × (closes ≡ wants)
  Does old (asked.Command command) wants out closes new =
      (reply : Reply) × commands old command reply new × (out ≡ answer_text wants (reply_answer reply)) × (closes ≡ wants)
  Does old (asked.Refused refusal ends) wants out closes new =
      (new ≡ old) × (out ≡ refusal_text (wants || ends) refusal) × (closes ≡ (wants || ends))

  -- memory was refused outside the desk, which stays as it was; the end of the body is known
  abbrev pub LacksMemory : D → RequestHead → List ℕ → Bool → D → Type 0
  LacksMemory old h out closes new =
      IsOk (told_length (fields_of h)) × (closes ≡ wants_close h) × (new ≡ old) × (out ≡ memory_text closes)

  -- the response to the request of a head and the bytes after it, and what is left
  abbrev pub AnswersHead : D → RequestHead → List ℕ → List ℕ → D → Option (List ℕ) → Type 0
  AnswersHead old h after out new left = (closes : Bool) × (left ≡ left_if closes (after_body h after))
      × (Does old (asked_of (request_of h after)) (wants_close h) out closes new ⊎ LacksMemory old h out closes new)

  -- a response that closes the connection, and leaves the desk as it was
  abbrev pub Refuses : D → Refusal → List ℕ → D → Option (List ℕ) → Type 0
  Refuses old refusal out new left = (new ≡ old) × (out ≡ refusal_text true refusal) × (left ≡ None)

  -- the response to what stands at the front of a text
  abbrev pub AnswersFront : D → Front → List ℕ → D → Option (List ℕ) → Type 0
  AnswersFront old over out new left = ⊥
  AnswersFront old (no_head refusal) out new left = Refuses old refusal out new left
  AnswersFront old (head bytes after) out new left =
      ((h : RequestHead) × IsHead bytes h × AnswersHead old h after out new left)
      ⊎ (IsNoHead bytes × Refuses old refusals.BadRequest out new left)

  -- the response to the first request of what is left
  abbrev pub AnswersFirst : D → Option (List ℕ) → List ℕ → D → Option (List ℕ) → Type 0
  AnswersFirst old None out new left = ⊥
  AnswersFirst old (Some text) out new left = AnswersFront old (front_of text) out new left

  -- the responses to the first requests of what is left, one after the other
  abbrev pub Answers : D → Option (List ℕ) → List (List ℕ) → D → Option (List ℕ) → Type 0
  Answers old text [] new left = (new ≡ old) × (left ≡ text)
  Answers old text (out ∷ outs) new left =
      (mid : D) × (rest : Option (List ℕ)) × AnswersFirst old text out mid rest × Answers mid rest outs new left

  -- no request is left
  abbrev pub IsOver : Option (List ℕ) → Type 0
  IsOver None = ⊤
  IsOver (Some text) = front_of text ≡ over

  -- the responses, joined, to all requests of a text, or to as many as are answered
  abbrev pub IsOutput : D → List ℕ → ℕ → List ℕ → D → Type 0
  IsOutput old text count out new =
      (outs : List (List ℕ)) × (left : Option (List ℕ)) × Answers old (Some text) outs new left
      × (IsOver left ⊎ (count ≡ REQUESTS_LIMIT)) × (count ≡ length outs) × (count ≤ REQUESTS_LIMIT) × (out ≡ all_of outs)

  -- the connection goes on, after as many requests as one call may answer, and the reader has what is left; else no request is left
  abbrev pub GoesOn : Bool → Option (List ℕ) → Option (List ℕ) → ℕ → Type 0
  GoesOn true rest left count = (here : List ℕ) × (rest ≡ Some here) × (left ≡ Some here) × (count ≡ REQUESTS_LIMIT)
  GoesOn false rest left count = IsOver rest

  -- so many responses, to the first requests of a text, were written, and the connection goes on after them or not
  abbrev pub IsPart : D → List ℕ → ℕ → Bool → Option (List ℕ) → Option (List ℕ) → Option (List ℕ) → D → Type 0
  IsPart old text count goes before after left new =
      (outs : List (List ℕ)) × (rest : Option (List ℕ)) × Answers old (Some text) outs new rest
      × GoesOn goes rest left count × (count ≡ length outs) × (count ≤ REQUESTS_LIMIT) × Appends before after (all_of outs)

  -- these responses to the first requests were written whole, and a front of the next one, whose request may be done at the desk
  abbrev pub StopsInNext : D → List ℕ → List (List ℕ) → Option (List ℕ) → Option (List ℕ) → D → Type 0
  StopsInNext old text outs before after new =
      (left : Option (List ℕ)) × (mid : D) × Answers old (Some text) outs mid left
      × (out : List ℕ) × (rest : Option (List ℕ)) × AnswersFirst mid left out new rest
      × (front : List ℕ) × (lost : List ℕ) × (out ≡ front ++ lost) × Appends before after (all_of outs ++ front)

  -- what was written before the writer's fault: fewer responses than one call may answer, and a front of the next one
  abbrev pub StopsIn : D → List ℕ → Option (List ℕ) → Option (List ℕ) → D → Type 0
  StopsIn old text before after new =
      (outs : List (List ℕ)) × (length outs < REQUESTS_LIMIT) × StopsInNext old text outs before after new

  -- the responses to all requests that the reader gave whole were written whole, fewer than one call may answer; what it gave after
  -- them is short of a request, from whose front on the reads were counted
  abbrev pub StopsBetween : {R : Type 0}
      → Device R
      → Device R
      → D
      → List ℕ
      → Option (List ℕ)
      → Option (List ℕ)
      → Option (List ℕ)
      → D
      → Type 0
  StopsBetween reader reader' old text left before after new =
      (outs : List (List ℕ)) × (rest : List ℕ) × Answers old (Some text) outs new (Some rest)
      × TakesShort rest left × Appends before after (all_of outs) × (length outs < REQUESTS_LIMIT)
      × BeganAt reader reader' text rest × ReadsForRequests reader reader' (length outs + 1)

  -- why no more was answered, what was written by then, and what the other device counted
  abbrev pub IsServeRefusal : {R W : Type 0} → Device R → Device R → Device W → Device W
      → Option (List ℕ) → Option (List ℕ) → Option (List ℕ) → Option (List ℕ) → D → D → ServeError → Type 0
  IsServeRefusal reader reader' writer writer' input left before after old new errors.ReadFault =
      LosesRequest reader reader' × (faults_of writer' ≡ faults_of writer)
      × IfSome input (λ text. StopsBetween reader reader' old text left before after new)
  IsServeRefusal reader reader' writer writer' input left before after old new errors.WriteFault =
      LosesWriter writer writer' × IsLostSince writer writer' × (faults_of reader' ≡ faults_of reader)
      × IfSome input (λ text. StopsIn old text before after new)
