-- What was read and done is the response to the first request of a text.
use Rattle.std.proofs.Common.{◌≡◌, ◌⊎◌, List, [], ℕ, Bool, true, false, Some, None, refl, sym, ap, subst, inl, inr, ◌∙◌}
use Rattle.std.specs.Prelude.{◌||◌, IsOk, Ok, Err, Option, Result}
use Rattle.std.specs.Io.KnownBytes.{Appends}
use Rattle.std.specs.declared.alloc.AllocError.{AllocError}
use Rattle.httparse.specs.Grammar.{RequestHead}
use Rattle.reg_leader.specs.declared.command.Command.{Command}
use Rattle.reg_leader.specs.declared.reply.Reply.{Reply}
use Rattle.reg_lookup.specs.declared.answered.Answer.{Answer}
use Rattle.reg_lookup.specs.declared.query.Query.{Query}
use Rattle.reg_refusals.specs.declared.refusal.Refusal.{Refusal}
use Rattle.reg_messages.specs.Fields.{told_length}
use Rattle.reg_messages.specs.Head.{front_of, head, IsHead}
use Rattle.reg_messages.specs.Messages.{after_body, fields_of, wants_close}
use Rattle.reg_messages.specs.Parts.{Parts, parts_of}
use Rattle.reg_messages.specs.Reading.{GetsFrom, GetsLent, IsRefusedAt}
use Rattle.reg_messages.specs.declared.reading.Got.{Got}
use Rattle.reg_messages.specs.declared.reading.Got.TheVariants as gots
use Rattle.reg_messages.specs.declared.request.Request.{Request}
use Rattle.reg_requests.specs.Asked.{asked_of, asked_of_target}
use Rattle.reg_requests.specs.declared.asked.Asked.{Asked}
use Rattle.reg_requests.specs.declared.asked.Asked.TheVariants as asked
use Rattle.reg_requests.proofs.Endpoints.{asked-told}
use Rattle.reg_refusals.specs.Refusal.{no_memory}
use Rattle.reg_requests.specs.reg_routes.Endpoint.{endpoint_of, nowhere}
use Rattle.reg_requests.specs.reg_routes.declared.endpoint.Endpoint.{Endpoint}
use Rattle.reg_responses.specs.Reply.{reply_answer}
use Rattle.reg_responses.specs.Response.{StatesStatus, refusal_text}
use Rattle.reg_responses.proofs.States.{refusal-states, response-states}
use Rattle.reg_http.specs.Requests.{request_of}
use Rattle.reg_http.specs.Serve.{AnswersFirst, AnswersFront, AnswersHead, Does, LacksMemory, left_if}
use Rattle.reg_http.specs.ServeSteps.{Attends, Did, GoesBy, GoesTo, Steps, done_closes, done_status, done_text}
use Rattle.reg_http.specs.declared.attending.Attended.TheVariants as attended
use Rattle.reg_http.specs.declared.outcome.RequestOutcome.{RequestOutcome}
use Rattle.reg_http.specs.declared.doing.Done.{Done}
use Rattle.reg_http.specs.declared.doing.Done.TheVariants as dones

or-true : (b : Bool) → (b || true) ≡ true
or-true true = refl
or-true false = refl

-- a request whose length is refused is refused so
asked-refused : (r : Request) (refusal : Refusal) → told_length r.fields ≡ Err refusal → asked_of r ≡ asked.Refused refusal true
unfolding asked_of
asked-refused r refusal told = rw told refl

-- a request that was read goes where its head says, or memory was refused
goes-message : (text : List ℕ) (wants : Bool) (parts : Parts) (endpoint : Endpoint) (done : Done) (bytes : List ℕ) (h : RequestHead)
    (after : List ℕ) → front_of text ≡ head bytes after → IsHead bytes h → parts ≡ parts_of (request_of h after) → GoesBy parts endpoint done
    → GoesTo text (done_text wants done) endpoint
goes-message text wants parts endpoint done bytes h after front is same goes = elim goes [
  | inl there ↦ inl (bytes, after, h, front, is, there ∙ ap (λ (p : Parts). endpoint_of p.method p.target) same)
  | inr p ↦ inr (p.0, inr (wants, ap (λ d. done_text wants d) p.1))
]

-- a message that was read lends its parts
pub gets-lent : (text : List ℕ) (left : Option (List ℕ)) (got : Got Request) → GetsFrom text left got → GetsLent parts_of text left got
gets-lent text left gots.Over gets = gets
gets-lent text left (gots.Refused refusal) gets = gets
gets-lent text left (gots.Message request told wants) (bytes, h, after, has, same, length, wanted) =
    (bytes, h, after, has, ap parts_of same, length, wanted)
gets-lent text left (gots.NoMemory wants) gets = gets

-- a response states its status
pub done-states : (wants : Bool) (done : Done) → StatesStatus (done_text wants done) (done_status done)
done-states wants (dones.Answered answer) = response-states answer.status None wants answer.body
done-states wants (dones.Replied reply) = response-states (reply_answer reply).status None wants (reply_answer reply).body
done-states wants (dones.Refused refusal ends) = refusal-states (wants || ends) refusal
done-states wants dones.NoMemory = refusal-states wants no_memory

module _ {D : Type 0} (asks : D → Query → Result Answer AllocError → D → Type 0) (commands : D → Command → Reply → D → Type 0) where
  -- what was done is the response to what was asked
  did-answers : (old new : D) (h : RequestHead) (a : Asked) (done : Done)
      → IsOk (told_length (fields_of h)) → Did asks commands old a new done
      → Does asks commands old a (wants_close h) (done_text (wants_close h) done) (done_closes (wants_close h) done) new
      ⊎ LacksMemory asks commands old h (done_text (wants_close h) done) (done_closes (wants_close h) done) new
  did-answers old new h a (dones.Answered answer) ok (query, is, did) =
      inl (
      subst (λ b. Does asks commands old b (wants_close h) (done_text (wants_close h) (dones.Answered answer)) (wants_close h) new)
      (sym is)
      (Ok answer, did, refl, refl))
  did-answers old new h a (dones.Replied reply) ok (command, is, did) =
      inl (
      subst (λ b. Does asks commands old b (wants_close h) (done_text (wants_close h) (dones.Replied reply)) (wants_close h) new) (sym is)
      (reply, did, refl, refl))
  did-answers old new h a (dones.Refused refusal ends) ok (is, same) =
      inl (
      subst (λ b. Does asks commands old b (wants_close h) (refusal_text (wants_close h || ends) refusal) (wants_close h || ends) new)
      (sym is)
      (same, refl, refl))
  did-answers old new h a dones.NoMemory ok did = elim did [
    | inl p ↦ inl (
        subst (λ b. Does asks commands old b (wants_close h) (done_text (wants_close h) dones.NoMemory) (wants_close h) new) (sym p.2)
        (Err p.1, p.3, refl, refl))
    | inr same ↦ inr (ok, refl, same, refl)
  ]

  -- the head at the front and what was done of its request
  head-answers : (old new : D) (text bytes : List ℕ) (h : RequestHead)
      (after : List ℕ) (wants : Bool) (out : List ℕ) (left : Option (List ℕ))
      → front_of text ≡ head bytes after → IsHead bytes h
      → AnswersHead asks commands old h after out new left → AnswersFirst asks commands old (Some text) out new left
  head-answers old new text bytes h after wants out left front is answers =
      subst (λ f. AnswersFront asks commands old f out new left) (sym front) (inl (h, is, answers))

  pub attends-request : {Q : Type 0} (lent : Q → Parts) (old new : D) (text : List ℕ) (left : Option (List ℕ))
      (request : Q) (parts : Parts) (told : Option ℕ) (wants : Bool) (endpoint : Endpoint) (done : Done)
      → parts ≡ lent request → GetsLent lent text left (gots.Message request told wants)
      → Did asks commands old (asked_of_target parts told) new done
      → GoesBy parts endpoint done
      → Attends asks commands old text left new (attended.Done endpoint done wants)
  attends-request lent old new text left request parts told wants endpoint done known
      (bytes, h, after, (front, is, ok, rest), same, length, wanted) did goes =
      let asks_same = ap (λ p. asked_of_target p told) (known ∙ same) ∙ sym (asked-told (request_of h after) told length) in
      let answers = did-answers old new h (asked_of (request_of h after)) done ok
      (subst (λ a. Did asks commands old a new done) asks_same did) in (
        after_body h after,
        λ _. rest,
        subst (λ w. AnswersFirst asks commands old (Some text) (done_text w done) new (left_if (done_closes w done) (after_body h after)))
            (sym wanted)
            (head-answers old new text bytes h after wants (done_text (wants_close h) done)
            (left_if (done_closes (wants_close h) done) (after_body h after)) front is
            (done_closes (wants_close h) done, refl, answers)),
        goes-message text wants parts endpoint done bytes h after front is (known ∙ same) goes,
      )

  pub attends-no_memory : {Q : Type 0} (lent : Q → Parts) (old : D) (text : List ℕ) (left : Option (List ℕ)) (wants : Bool)
      → GetsLent lent text left (gots.NoMemory wants) → Attends asks commands old text left old (attended.Done nowhere dones.NoMemory wants)
  attends-no_memory lent old text left wants (bytes, h, after, (front, is, ok, rest), wanted) = (
    after_body h after,
    λ _. rest,
    head-answers old old text bytes h after wants (done_text wants dones.NoMemory) (left_if wants (after_body h after)) front is
        (wants, refl, inr (ok, wanted, refl, refl)),
    inr (refl, inr (wants, refl)),
  )

  pub attends-refused : (old : D) (text : List ℕ) (left : Option (List ℕ)) (refusal : Refusal)
      → IsRefusedAt text refusal → Attends asks commands old text left old (attended.Done nowhere (dones.Refused refusal true) true)
  attends-refused old text left refusal refused = elim refused [
    | inl front ↦ (
      [],
      λ e. absurd (cc),
      subst (λ f. AnswersFront asks commands old f (refusal_text true refusal) old None) (sym front) (refl, refl, refl),
      inr (refl, inl (refusal, inl front, refl)),
    )
    | inr p ↦ (
      [],
      λ e. absurd (cc),
      subst (λ f. AnswersFront asks commands old f (refusal_text true refusal) old None) (sym p.2) (elim p.3 [
        | inl q ↦ inr (q.0, (refl, ap (λ r. refusal_text true r) q.1, refl))
        | inr q ↦ inl (
          q.0,
          q.1,
          (
            true,
            refl,
            inl (subst (λ a. Does asks commands old a (wants_close q.0) (refusal_text true refusal) true old)
                (sym (asked-refused (request_of q.0 p.1) refusal q.2))
                (refl, ap (λ c. refusal_text c refusal) (sym (or-true (wants_close q.0))), sym (or-true (wants_close q.0)))),
          ),
        )
      ]),
      inr (refl, inl (refusal, inr p, refl)),
    )
  ]

  -- what was done of the first request, once its response is written
  pub steps-written : (old new : D) (text : List ℕ) (left before after : Option (List ℕ)) (done : Done) (wants : Bool) (outcome : RequestOutcome)
      → outcome.closes ≡ done_closes wants done → outcome.status ≡ done_status done
      → Attends asks commands old text left new (attended.Done outcome.endpoint done wants)
      → Appends before after (done_text wants done) → Steps asks commands old text before after left new (Some outcome)
  steps-written old new text left before after done wants outcome closes status (rest, goes, first, there) appends = (
    done_text wants done,
    rest,
    λ e. goes (sym closes ∙ e),
    subst (λ c. AnswersFirst asks commands old (Some text) (done_text wants done) new (left_if c rest)) (sym closes) first,
    appends,
    record { status = subst (StatesStatus (done_text wants done)) (sym status) (done-states wants done); endpoint = there },
  )
