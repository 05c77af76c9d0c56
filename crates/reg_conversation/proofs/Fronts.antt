-- What is answered of a whole request is answered of every text that goes on after it.
use Rattle.std.proofs.Common.{◌≡◌, ◌⊎◌, ◌++◌, [], List, ℕ, Bool, true, false, Some, None, refl, sym, ap}
use Rattle.std.proofs.Common.{subst, ◌∙◌, inl, inr, arith, append-nil, length, length-append, take, drop}
use Rattle.std.specs.Prelude.{Option, Result, nat_le, not}
use Rattle.std.specs.declared.alloc.AllocError.{AllocError}
use Rattle.std.proofs.lemmas.List.{append_assoc, take-append-drop, take-append-le}
use Rattle.std.proofs.Math.Seq.{drop-append_seam}
use Rattle.httparse.specs.Grammar.{RequestHead}
use Rattle.reg_leader.specs.declared.command.Command.{Command}
use Rattle.reg_leader.specs.declared.reply.Reply.{Reply}
use Rattle.reg_lookup.specs.declared.answered.Answer.{Answer}
use Rattle.reg_lookup.specs.declared.query.Query.{Query}
use Rattle.reg_records.specs.declared.device.Device.{Device}
use Rattle.reg_messages.specs.Fields.{body_length}
use Rattle.reg_messages.specs.Head.{Front, front_of, over, head, no_head, IsHead}
use Rattle.reg_messages.specs.Messages.{body_in, fields_of, wants_close}
use Rattle.reg_requests.specs.Asked.{asked_of}
use Rattle.reg_http.specs.Requests.{request_of}
use Rattle.reg_http.specs.Serve.{AnswersFirst, AnswersFront, AnswersHead, Does, LacksMemory, left_if}
use Rattle.reg_http.specs.ServeSteps.{Steps}
use Rattle.reg_http.specs.declared.outcome.RequestOutcome.{RequestOutcome}
use Rattle.reg_http.specs.declared.serving.ServeError.{ServeError}
use Rattle.reg_http.specs.declared.serving.ServeError.TheVariants as errors
use Rattle.reg_messages.specs.Extent.{IsWhole}
use Rattle.reg_conversation.specs.Conversation.{AnswersAs, FailsFirst, left_of}

-- a body is the same whatever comes after it
body_in-more : (n : ℕ) (after more : List ℕ) → length after ≡ n → body_in n (after ++ more) ≡ body_in n after
body_in-more n after more size =
    let long : nat_le n (length (after ++ more)) ≡ true = grind (arith, length-append after more, size) in
    let whole : nat_le n (length after) ≡ true = grind (arith, size) in
    let same : take n (after ++ more) ≡ take n after = take-append-le n after more (omega (arith, size)) in
    rw (long, whole, same) refl

-- and what comes after it is that
drop-more : (n : ℕ) (after more : List ℕ) → length after ≡ n → drop n (after ++ more) ≡ more
drop-more n after more size = ap (λ k. drop k (after ++ more)) (sym size) ∙ drop-append_seam after more

request-more : (h : RequestHead) (after more : List ℕ) → length after ≡ body_length (fields_of h)
    → request_of h (after ++ more) ≡ request_of h after
request-more h after more size = rw (body_in-more (body_length (fields_of h)) after more size) refl

module _ {D : Type 0} (asks : D → Query → Result Answer AllocError → D → Type 0) (commands : D → Command → Reply → D → Type 0) where
  -- the front that whole bytes have
  front-whole : (old new : D) (part out : List ℕ) (left : Option (List ℕ)) (front : List ℕ → Front)
      → ((more : List ℕ) → front_of (part ++ more) ≡ front more)
      → AnswersFirst asks commands old (Some part) out new left → AnswersFront asks commands old (front []) out new left
  front-whole old new part out left front always answers =
      subst (λ f. AnswersFront asks commands old f out new left) (ap front_of (sym (append-nil part)) ∙ always []) answers

  -- the request of whole bytes is that of a text which goes on
  head-more : (old new : D) (h : RequestHead) (after more out : List ℕ) (closes : Bool) → length after ≡ body_length (fields_of h)
      → Does asks commands old (asked_of (request_of h after)) (wants_close h) out closes new
      ⊎ LacksMemory asks commands old h out closes new
      → AnswersHead asks commands old h (after ++ more) out new (left_if closes more)
  head-more old new h after more out closes size did = (
    closes,
    ap (λ rest. left_if closes rest) (sym (drop-more (body_length (fields_of h)) after more size)),
    subst (λ r. Does asks commands old (asked_of r) (wants_close h) out closes new ⊎ LacksMemory asks commands old h out closes new)
        (sym (request-more h after more size)) did,
  )

  -- a response after which the connection is closed
  whole-closed : (old new : D) (part out : List ℕ) → IsWhole part → AnswersFirst asks commands old (Some part) out new None
      → (more : List ℕ) → AnswersFirst asks commands old (Some (part ++ more)) out new None
  whole-closed old new part out whole answers more = elim whole [
    | inl never ↦ subst (λ f. AnswersFront asks commands old f out new None) (sym (never.1 more))
        (front-whole old new part out None (λ m. no_head never.0) never.1 answers)
    | inr body ↦ subst (λ f. AnswersFront asks commands old f out new None) (sym (body.2 more))
        (closed-body old new body.0 body.1 more out body.3
        (subst (λ a. AnswersFront asks commands old (head body.0 a) out new None) (append-nil body.1)
        (front-whole old new part out None (λ m. head body.0 (body.1 ++ m)) body.2 answers)))
  ]
    where
      closed-head : (old new : D) (h : RequestHead) (after more out : List ℕ) → length after ≡ body_length (fields_of h)
          → AnswersHead asks commands old h after out new None → AnswersHead asks commands old h (after ++ more) out new None
      closed-head old new h after more out size (true, left, did) = head-more old new h after more out true size did
      closed-head old new h after more out size (false, left, did) = absurd (cc)

      closed-body : (old new : D) (bytes after more out : List ℕ)
          → ((h : RequestHead) → IsHead bytes h → length after ≡ body_length (fields_of h))
          → AnswersFront asks commands old (head bytes after) out new None
          → AnswersFront asks commands old (head bytes (after ++ more)) out new None
      closed-body old new bytes after more out told answers = elim answers [
        | inl p ↦ inl (p.0, p.1, closed-head old new p.0 after more out (told p.0 p.1) p.2)
        | inr q ↦ inr q
      ]

  -- a response after which the connection goes on
  whole-more : (old new : D) (part out rest : List ℕ) → IsWhole part → AnswersFirst asks commands old (Some part) out new (Some rest)
      → (more : List ℕ) → AnswersFirst asks commands old (Some (part ++ more)) out new (Some more)
  whole-more old new part out rest whole answers more = elim whole [
    | inl never ↦ refused (front-whole old new part out (Some rest) (λ m. no_head never.0) never.1 answers).2
    | inr body ↦ subst (λ f. AnswersFront asks commands old f out new (Some more)) (sym (body.2 more))
        (more-body old new body.0 body.1 more out rest body.3
        (subst (λ a. AnswersFront asks commands old (head body.0 a) out new (Some rest)) (append-nil body.1)
        (front-whole old new part out (Some rest) (λ m. head body.0 (body.1 ++ m)) body.2 answers)))
  ]
    where
      refused : {P : Type 0} {xs : List ℕ} → Some xs ≡ None → P
      refused e = absurd (cc)

      more-head : (old new : D) (h : RequestHead) (after more out rest : List ℕ) → length after ≡ body_length (fields_of h)
          → AnswersHead asks commands old h after out new (Some rest) → AnswersHead asks commands old h (after ++ more) out new (Some more)
      more-head old new h after more out rest size (true, left, did) = absurd (cc)
      more-head old new h after more out rest size (false, left, did) = head-more old new h after more out false size did

      more-body : (old new : D) (bytes after more out rest : List ℕ)
          → ((h : RequestHead) → IsHead bytes h → length after ≡ body_length (fields_of h))
          → AnswersFront asks commands old (head bytes after) out new (Some rest)
          → AnswersFront asks commands old (head bytes (after ++ more)) out new (Some more)
      more-body old new bytes after more out rest told answers = elim answers [
        | inl p ↦ inl (p.0, p.1, more-head old new p.0 after more out rest (told p.0 p.1) p.2)
        | inr q ↦ refused q.1.2
      ]

  -- whole bytes have a request
  never-over : (part : List ℕ) → IsWhole part → front_of part ≡ over → ⊥
  never-over part whole is = elim whole [
    | inl never ↦ (let e : no_head never.0 ≡ over = sym (never.1 []) ∙ ap front_of (append-nil part) ∙ is in absurd (cc))
    | inr body ↦ (let e : head body.0 (body.1 ++ []) ≡ over = sym (body.2 []) ∙ ap front_of (append-nil part) ∙ is in absurd (cc))
  ]

  held-parts : (held more : List ℕ) (n : ℕ) → held ++ more ≡ take n held ++ (drop n held ++ more)
  held-parts held more n = ap (λ t. t ++ more) (sym (take-append-drop n held)) ∙ append_assoc (take n held) (drop n held) more

  -- a step over whole bytes at the front of what is held, after which the connection is closed or goes on
  held-left : (old new : D) (held rest : List ℕ) (n : ℕ) (out : List ℕ) (closes : Bool) → IsWhole (take n held)
      → AnswersFirst asks commands old (Some (take n held)) out new (left_if closes rest)
      → (more : List ℕ) → AnswersFirst asks commands old (Some (held ++ more)) out new (left_of (not closes) (drop n held ++ more))
  held-left old new held rest n out true whole first more =
      subst (λ t. AnswersFirst asks commands old (Some t) out new None) (sym (held-parts held more n))
      (whole-closed old new (take n held) out whole first (drop n held ++ more))
  held-left old new held rest n out false whole first more =
      subst (λ t. AnswersFirst asks commands old (Some t) out new (Some (drop n held ++ more))) (sym (held-parts held more n))
      (whole-more old new (take n held) out rest whole first (drop n held ++ more))

  pub held-answered : (old new : D) (held held' : List ℕ) (n : ℕ) (before after : Option (List ℕ)) (found : Option RequestOutcome)
      (outcome : RequestOutcome) → found ≡ Some outcome → IsWhole (take n held) → held' ≡ drop n held
      → (left : Option (List ℕ)) × Steps asks commands old (take n held) before after left new found
      → AnswersAs asks commands old held before after held' new outcome
  held-answered old new held held' n before after found outcome is whole dropped step =
      let (left, (out, rest, goes, first, written, what)) =
      subst (λ o. (left : Option (List ℕ)) × Steps asks commands old (take n held) before after left new o) is step in
      subst (λ h. AnswersAs asks commands old held before after h new outcome) (sym dropped) (
        out,
        written,
        held-left old new held rest n out outcome.closes whole first,
        (take n held, sym (take-append-drop n held), what),
      )

  -- there is always one
  pub held-over : (old new : D) (held : List ℕ) (n : ℕ) (before after : Option (List ℕ)) (found : Option RequestOutcome)
      → found ≡ None → IsWhole (take n held)
      → (left : Option (List ℕ)) × Steps asks commands old (take n held) before after left new found → ⊥
  held-over old new held n before after found is whole step =
      let (left, (none, same, kept)) =
      subst (λ o. (left : Option (List ℕ)) × Steps asks commands old (take n held) before after left new o) is step in
      never-over (take n held) whole none

  -- a first response that was written in part
  first-more : (old new : D) (part out : List ℕ) (rest : Option (List ℕ))
      → IsWhole part → AnswersFirst asks commands old (Some part) out new rest
      → (more : List ℕ) → (left : Option (List ℕ)) × AnswersFirst asks commands old (Some (part ++ more)) out new left
  first-more old new part out None whole first more = (None, whole-closed old new part out whole first more)
  first-more old new part out (Some rest) whole first more = (Some more, whole-more old new part out rest whole first more)

  fails-more : {W : Type 0} (writer writer' : Device W) (old new : D) (part : List ℕ) (before after : Option (List ℕ)) (e : ServeError)
      → IsWhole part
      → FailsFirst asks commands writer writer' old part before after new e
      → (more : List ℕ) → FailsFirst asks commands writer writer' old (part ++ more) before after new e
  fails-more writer writer' old new part before after errors.ReadFault whole fails more = fails
  fails-more writer writer' old new part before after errors.WriteFault whole (lost, out, rest, first, front) more =
      let (left, begins) = first-more old new part out rest whole first more in (lost, out, left, begins, front)

  pub held-fails : {W : Type 0} (writer writer' : Device W) (old new : D)
      (held : List ℕ) (n : ℕ) (before after : Option (List ℕ)) (e : ServeError)
      → IsWhole (take n held) → FailsFirst asks commands writer writer' old (take n held) before after new e
      → (more : List ℕ) → FailsFirst asks commands writer writer' old (held ++ more) before after new e
  held-fails writer writer' old new held n before after e whole fails more =
      subst (λ t. FailsFirst asks commands writer writer' old t before after new e) (sym (held-parts held more n))
      (fails-more writer writer' old new (take n held) before after e whole fails (drop n held ++ more))
