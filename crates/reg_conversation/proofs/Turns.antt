-- The responses to the first requests of a text, and more.
use Rattle.std.proofs.Common.{◌≡◌, ◌++◌, ◌∷◌, [], List, ℕ, Bool, true, false, Some, None, refl, sym, ap, subst, ◌∙◌, inl, inr, append-nil}
use Rattle.std.specs.Prelude.{not, Option, Result}
use Rattle.std.specs.Io.KnownBytes.{Appends}
use Rattle.std.specs.declared.alloc.AllocError.{AllocError}
use Rattle.std.proofs.KnownBytes.{Appends-nil, Appends-trans}
use Rattle.std.proofs.lemmas.Grind.{flat_map-append}
use Rattle.std.proofs.lemmas.List.{append_assoc}
use Rattle.reg_leader.specs.declared.command.Command.{Command}
use Rattle.reg_leader.specs.declared.reply.Reply.{Reply}
use Rattle.reg_lookup.specs.declared.answered.Answer.{Answer}
use Rattle.reg_lookup.specs.declared.query.Query.{Query}
use Rattle.reg_records.specs.Device.{counted, faults_of}
use Rattle.reg_records.specs.declared.device.Device.{Device}
use Rattle.reg_messages.specs.Head.{front_of}
use Rattle.reg_messages.specs.Reading.{IsShort}
use Rattle.reg_responses.specs.Writing.{LosesWriter}
use Rattle.reg_http.specs.Serve.{all_of, Answers}
use Rattle.reg_http.specs.declared.outcome.RequestOutcome.{RequestOutcome}
use Rattle.reg_http.specs.declared.serving.ServeError.{ServeError}
use Rattle.reg_http.specs.declared.serving.ServeError.TheVariants as errors
use Rattle.reg_http.proofs.Runs.{Answers-more}
use Rattle.reg_conversation.specs.Conversation.{AnswersAs, AnswersHeld, AnswersSome, AnswersWhole}
use Rattle.reg_conversation.specs.Conversation.{FailsFirst, HasConversed, RepliesAll}
use Rattle.reg_conversation.specs.Conversation.{Stops, left_of}

all_of-append : (outs more : List (List ℕ)) → all_of (outs ++ more) ≡ all_of outs ++ all_of more
all_of-append outs more = flat_map-append (λ o. o) outs more

all_of-one : (outs : List (List ℕ)) (out : List ℕ) → all_of (outs ++ out ∷ []) ≡ all_of outs ++ out
all_of-one outs out = all_of-append outs (out ∷ []) ∙ ap (λ last. all_of outs ++ last) (append-nil out)

-- a writer that is lost later was lost since, where no fault was counted before
loses-since : {W : Type 0} (old mid new : Device W) → faults_of mid ≡ faults_of old → LosesWriter mid new → LosesWriter old new
loses-since old mid new same lost = elim lost [ inl p ↦ inl (p.0 ∙ ap counted same, p.1) | inr p ↦ inr (p.0 ∙ same, p.1) ]

module _ {D : Type 0} (asks : D → Query → Result Answer AllocError → D → Type 0) (commands : D → Command → Reply → D → Type 0) where
  pub some-begun : (old : D) (held : List ℕ) (before after : Option (List ℕ))
      → after ≡ before → AnswersSome asks commands old held before after held old true
  some-begun old held before after same =
      subst (λ a. AnswersSome asks commands old held before a held old true) (sym same) ([], (λ more. (refl, refl)), Appends-nil before)

  -- one more response
  pub some-more : (old mid new : D) (came held held' : List ℕ) (before middle after : Option (List ℕ)) (goes : Bool)
      → AnswersSome asks commands old came before middle held mid true → AnswersHeld asks commands mid held middle after held' new goes
      → AnswersSome asks commands old came before after held' new goes
  some-more old mid new came held held' before middle after goes (outs, conversed, written) (out, appends, first) = (
    outs ++ out ∷ [],
    (λ more.
        Answers-more asks commands old mid new (Some (came ++ more)) (Some (held ++ more))
        (left_of goes (held' ++ more)) outs out (conversed more) (first more)),
    subst (Appends before after) (sym (all_of-one outs out)) (Appends-trans before middle after (all_of outs) out written appends),
  )

  -- what became of a request says that it was answered
  pub as-held : (old new : D) (held held' : List ℕ) (before after : Option (List ℕ)) (outcome : RequestOutcome)
      → AnswersAs asks commands old held before after held' new outcome
      → AnswersHeld asks commands old held before after held' new (not outcome.closes)
  as-held old new held held' before after outcome (out, written, first, what) = (out, written, first)

  -- one more response, of a call whose outcome is known, over what was held
  pub turn-more : (old mid new : D) (came held held0 held' : List ℕ) (before middle after : Option (List ℕ)) (goes known : Bool)
      → goes ≡ known → held0 ≡ held
      → AnswersSome asks commands old came before middle held mid true → AnswersHeld asks commands mid held0 middle after held' new goes
      → AnswersSome asks commands old came before after held' new known
  turn-more old mid new came held held0 held' before middle after goes known is same some answered =
      subst (λ g. AnswersSome asks commands old came before after held' new g) is
      (some-more old mid new came held held' before middle after goes some
      (subst (λ h. AnswersHeld asks commands mid h middle after held' new goes) same answered))

  pub turn-closed : (old mid new : D) (came held held0 held' : List ℕ) (before middle after : Option (List ℕ)) (goes : Bool)
      → goes ≡ false → held0 ≡ held
      → AnswersSome asks commands old came before middle held mid true → AnswersHeld asks commands mid held0 middle after held' new goes
      → AnswersWhole asks commands old came before after held' new false
  turn-closed old mid new came held held0 held' before middle after goes is same some answered =
      (turn-more old mid new came held held0 held' before middle after goes false is same some answered, λ e. absurd (cc))

  -- what is held is short
  pub turn-short : (old mid : D) (came held held0 : List ℕ) (before middle : Option (List ℕ)) → held0 ≡ held
      → AnswersSome asks commands old came before middle held mid true → IsShort (front_of held)
      → AnswersWhole asks commands old came before middle held0 mid true
  turn-short old mid came held held0 before middle same some short =
      subst (λ h. AnswersWhole asks commands old came before middle h mid true) (sym same) (some, λ e. short)

  -- some requests, and then more
  answers-join : (old mid new : D) (text left rest : Option (List ℕ)) (outs more : List (List ℕ))
      → Answers asks commands old text outs mid left → Answers asks commands mid left more new rest
      → Answers asks commands old text (outs ++ more) new rest
  answers-join old mid new text left rest [] more (same, is) then =
      subst (λ t. Answers asks commands old t more new rest) is (subst (λ d. Answers asks commands d left more new rest) same then)
  answers-join old mid new text left rest (out ∷ outs) more (next, after, first, others) then =
      (next, after, first, answers-join next mid new after left rest outs more others then)

  appends-join : (outs more : List (List ℕ)) (before middle after : Option (List ℕ))
      → Appends before middle (all_of outs) → Appends middle after (all_of more)
      → Appends before after (all_of (outs ++ more))
  appends-join outs more before middle after written appends =
      subst (Appends before after) (sym (all_of-append outs more))
      (Appends-trans before middle after (all_of outs) (all_of more) written appends)

  -- a piece that came is what may come later
  some-fed : (old mid : D) (came held piece : List ℕ) (outs : List (List ℕ)) → HasConversed asks commands old came outs mid held true
      → HasConversed asks commands old (came ++ piece) outs mid (held ++ piece) true
  some-fed old mid came held piece outs conversed = λ later.
      subst (λ h. Answers asks commands old (Some ((came ++ piece) ++ later)) outs mid (Some h)) (sym (append_assoc held piece later))
      (subst (λ t. Answers asks commands old (Some t) outs mid (Some (held ++ (piece ++ later))))
      (sym (append_assoc came piece later)) (conversed (piece ++ later)))

  -- what came before, a piece, and the responses to what is whole then
  pub whole-fed : (old mid new : D) (came held piece held' : List ℕ) (before middle after : Option (List ℕ)) (goes : Bool)
      → AnswersSome asks commands old came before middle held mid true
      → AnswersWhole asks commands mid (held ++ piece) middle after held' new goes
      → AnswersWhole asks commands old (came ++ piece) before after held' new goes
  whole-fed old mid new came held piece held' before middle after goes (outs, conversed, written) ((more, others, appends), short) =
      let fed = some-fed old mid came held piece outs conversed in (
        (
          outs ++ more,
          (λ later.
              answers-join old mid new (Some ((came ++ piece) ++ later)) (Some ((held ++ piece) ++ later))
              (left_of goes (held' ++ later)) outs more (fed later) (others later)),
          appends-join outs more before middle after written appends,
        ),
        short,
      )

  -- what was answered of a front of a text, after which the connection is closed, is all
  pub replies-closed : (old new : D) (came later held : List ℕ) (before after : Option (List ℕ))
      → AnswersWhole asks commands old came before after held new false
      → RepliesAll asks commands old (came ++ later) before after new
  replies-closed old new came later held before after ((outs, conversed, written), short) =
      (outs, None, conversed later, tt, (λ few. (outs, None, conversed later, inl tt, refl, few, refl)), written)

  -- the same of all that came
  pub replies-ended : (old new : D) (held held' : List ℕ) (before after : Option (List ℕ))
      → AnswersWhole asks commands old held before after held' new false
      → RepliesAll asks commands old held before after new
  replies-ended old new held held' before after answered =
      subst (λ t. RepliesAll asks commands old t before after new) (append-nil held)
      (replies-closed old new held [] held' before after answered)

  -- the end of the input
  conversed-now : (old mid : D) (came held : List ℕ) (outs : List (List ℕ)) → HasConversed asks commands old came outs mid held true
      → Answers asks commands old (Some came) outs mid (Some held)
  conversed-now old mid came held outs conversed =
      subst (λ h. Answers asks commands old (Some came) outs mid (Some h)) (append-nil held)
      (subst (λ t. Answers asks commands old (Some t) outs mid (Some (held ++ []))) (append-nil came) (conversed []))

  pub replies-rest : (old mid new : D) (came held : List ℕ) (before middle after : Option (List ℕ))
      → AnswersSome asks commands old came before middle held mid true
      → RepliesAll asks commands mid held middle after new → RepliesAll asks commands old came before after new
  replies-rest old mid new came held before middle after (outs, conversed, written) (more, left, others, none, output, appends) =
      let answers =
      answers-join old mid new (Some came) (Some held) left outs more (conversed-now old mid came held outs conversed) others in (
        outs ++ more,
        left,
        answers,
        none,
        (λ few. (outs ++ more, left, answers, inl none, refl, few, refl)),
        appends-join outs more before middle after written appends,
      )

  -- a response that failed, after none
  stops-first : {W : Type 0} (writer writer' : Device W) (old new : D) (text : List ℕ) (before after : Option (List ℕ)) (e : ServeError)
      → FailsFirst asks commands writer writer' old text before after new e → Stops asks commands writer writer' old text before after new e
  stops-first writer writer' old new text before after errors.ReadFault fails = fails
  stops-first writer writer' old new text before after errors.WriteFault (lost, out, rest, first, (front, more, parts, written)) =
      (lost, [], (Some text, old, (refl, refl), out, rest, first, front, more, parts, written))

  -- after some
  stops-more : {W : Type 0} (start writer writer' : Device W) (old mid new : D) (text left : List ℕ)
      (outs : List (List ℕ)) (before middle after : Option (List ℕ)) (e : ServeError)
      → faults_of writer ≡ faults_of start → Answers asks commands old (Some text) outs mid (Some left)
      → Appends before middle (all_of outs)
      → Stops asks commands writer writer' mid left middle after new e → Stops asks commands start writer' old text before after new e
  stops-more start writer writer' old mid new text left outs before middle after errors.ReadFault same answers written stops = stops
  stops-more start writer writer' old mid new text left outs before middle after errors.WriteFault same answers written
      (lost, more, (rest, last, others, out, after_it, first, front, missing, parts, appends)) = (
        loses-since start writer writer' same lost,
        outs ++ more,
        (
          rest,
          last,
          answers-join old mid last (Some text) (Some left) rest outs more answers others,
          out,
          after_it,
          first,
          front,
          missing,
          parts,
          subst (Appends before after)
              (sym (ap (λ t. t ++ front) (all_of-append outs more) ∙ append_assoc (all_of outs) (all_of more) front))
              (Appends-trans before middle after (all_of outs) (all_of more ++ front) written appends),
        ),
      )

  -- the request at the front failed, after some
  pub stops-held : {W : Type 0} (start writer writer' : Device W) (old mid new : D)
      (came held held0 : List ℕ) (before middle after : Option (List ℕ)) (e : ServeError)
      → faults_of writer ≡ faults_of start → held0 ≡ held → AnswersSome asks commands old came before middle held mid true
      → ((more : List ℕ) → FailsFirst asks commands writer writer' mid (held0 ++ more) middle after new e)
      → (more : List ℕ) → Stops asks commands start writer' old (came ++ more) before after new e
  stops-held start writer writer' old mid new came held held0 before middle after e same kept (outs, conversed, written) fails more =
      stops-more start writer writer' old mid new (came ++ more) (held ++ more) outs before middle after e same (conversed more) written
      (stops-first writer writer' mid new (held ++ more) middle after e
      (subst (λ h. FailsFirst asks commands writer writer' mid (h ++ more) middle after new e) kept (fails more)))

  -- the last one failed, after some
  pub stops-last : {W : Type 0} (start writer writer' : Device W) (old mid new : D)
      (came held : List ℕ) (before middle after : Option (List ℕ)) (e : ServeError)
      → faults_of writer ≡ faults_of start → AnswersSome asks commands old came before middle held mid true
      → FailsFirst asks commands writer writer' mid held middle after new e → Stops asks commands start writer' old came before after new e
  stops-last start writer writer' old mid new came held before middle after e same (outs, conversed, written) fails =
      stops-more start writer writer' old mid new came held outs before middle after e same
      (conversed-now old mid came held outs conversed) written
      (stops-first writer writer' mid new held middle after e fails)

  -- a text that goes on stopped, and nothing came
  pub stops-now : {W : Type 0} (writer writer' : Device W) (old new : D) (text : List ℕ) (before after : Option (List ℕ)) (e : ServeError)
      → ((more : List ℕ) → Stops asks commands writer writer' old (text ++ more) before after new e)
      → Stops asks commands writer writer' old text before after new e
  stops-now writer writer' old new text before after e stops =
      subst (λ t. Stops asks commands writer writer' old t before after new e) (append-nil text) (stops [])

  -- a piece stopped, after some, or the rest did
  pub stops-piece : {W : Type 0} (start writer writer' : Device W) (old mid new : D)
      (came held piece : List ℕ) (before middle after : Option (List ℕ)) (e : ServeError)
      → faults_of writer ≡ faults_of start → AnswersSome asks commands old came before middle held mid true
      → ((more : List ℕ) → Stops asks commands writer writer' mid ((held ++ piece) ++ more) middle after new e)
      → (later : List ℕ) → Stops asks commands start writer' old ((came ++ piece) ++ later) before after new e
  stops-piece start writer writer' old mid new came held piece before middle after e same (outs, conversed, written) stops later =
      stops-more start writer writer' old mid new ((came ++ piece) ++ later) ((held ++ piece) ++ later) outs before middle after e same
      (some-fed old mid came held piece outs conversed later) written (stops later)

  pub stops-rest : {W : Type 0} (start writer writer' : Device W) (old mid new : D)
      (came held : List ℕ) (before middle after : Option (List ℕ)) (e : ServeError)
      → faults_of writer ≡ faults_of start → AnswersSome asks commands old came before middle held mid true
      → Stops asks commands writer writer' mid held middle after new e → Stops asks commands start writer' old came before after new e
  stops-rest start writer writer' old mid new came held before middle after e same (outs, conversed, written) stops =
      stops-more start writer writer' old mid new came held outs before middle after e same
      (conversed-now old mid came held outs conversed) written stops

  -- the rest is answered, or isn't, after all that was whole
  some-of : (old mid : D) (came held : List ℕ) (before middle : Option (List ℕ)) (goes : Bool) → goes ≡ true
      → AnswersWhole asks commands old came before middle held mid goes → AnswersSome asks commands old came before middle held mid true
  some-of old mid came held before middle goes is whole =
      subst (λ g. AnswersSome asks commands old came before middle held mid g) is whole.0

  pub rest-replies : (old mid new : D) (came held : List ℕ) (before middle after : Option (List ℕ)) (goes : Bool) → goes ≡ true
      → AnswersWhole asks commands old came before middle held mid goes → RepliesAll asks commands mid held middle after new
      → RepliesAll asks commands old came before after new
  rest-replies old mid new came held before middle after goes is whole replies =
      replies-rest old mid new came held before middle after (some-of old mid came held before middle goes is whole) replies

  pub rest-stops : {W : Type 0} (start writer writer' : Device W) (old mid new : D) (came held : List ℕ)
      (before middle after : Option (List ℕ)) (e : ServeError) (goes : Bool) → goes ≡ true → faults_of writer ≡ faults_of start
      → AnswersWhole asks commands old came before middle held mid goes
      → FailsFirst asks commands writer writer' mid held middle after new e → Stops asks commands start writer' old came before after new e
  rest-stops start writer writer' old mid new came held before middle after e goes is same whole fails =
      stops-last start writer writer' old mid new came held before middle after e same
      (some-of old mid came held before middle goes is whole) fails

  pub rest-closed : (old new : D) (held held' : List ℕ) (before after : Option (List ℕ)) (goes : Bool) → goes ≡ false
      → AnswersWhole asks commands old held before after held' new goes → RepliesAll asks commands old held before after new
  rest-closed old new held held' before after goes is whole =
      replies-ended old new held held' before after (subst (λ g. AnswersWhole asks commands old held before after held' new g) is whole)

  -- what is held is what was held, and a piece
  pub stops-fed : {W : Type 0} (writer writer' : Device W) (old new : D)
      (fed text : List ℕ) (before after : Option (List ℕ)) (e : ServeError)
      → fed ≡ text
      → ((more : List ℕ) → Stops asks commands writer writer' old (fed ++ more) before after new e)
      → (more : List ℕ) → Stops asks commands writer writer' old (text ++ more) before after new e
  stops-fed writer writer' old new fed text before after e is stops more =
      subst (λ t. Stops asks commands writer writer' old (t ++ more) before after new e) is (stops more)
