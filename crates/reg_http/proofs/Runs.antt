-- The responses to the first requests of a text, and one more.
use Rattle.std.proofs.Common.{◌≡◌, ◌≤◌, ◌<◌, ◌+◌, ℕ, List, [], ◌∷◌, ◌++◌, refl, sym, ap, subst, ◌∙◌, inl, inr}
use Rattle.std.proofs.Common.{arith, append-nil, length, length-append, IfSome, Some, None, true, false}
use Rattle.std.specs.Prelude.{Bool, Option, Result, option_map, unwrap_or}
use Rattle.std.proofs.lemmas.Option.{none-some}
use Rattle.std.specs.Io.KnownBytes.{Appends, Keeps}
use Rattle.std.specs.declared.alloc.AllocError.{AllocError}
use Rattle.std.proofs.KnownBytes.{Appends-nil, Appends-trans, Appends-kept}
use Rattle.std.proofs.lemmas.Grind.{flat_map-append}
use Rattle.reg_records.specs.Device.{BeganAt, KeepsEnd, all_interruptions_of, all_reads_of, begun_of}
use Rattle.reg_records.specs.Device.{bytes_in, counted, counted_by, faults_of, place_of, reads_of}
use Rattle.reg_lookup.specs.declared.answered.Answer.{Answer}
use Rattle.reg_leader.specs.declared.command.Command.{Command}
use Rattle.reg_leader.specs.declared.reply.Reply.{Reply}
use Rattle.reg_records.specs.declared.device.Device.{Device}
use Rattle.reg_lookup.specs.declared.query.Query.{Query}
use Rattle.reg_messages.specs.Reading.{TakesShort}
use Rattle.reg_messages.specs.Taking.{CountsReads, LosesReader}
use Rattle.reg_responses.specs.Writing.{AppendsFront}
use Rattle.reg_responses.proofs.Written.{IsLostSince-later, LosesWriter-later}
use Rattle.reg_http.specs.Serve.{LosesRequest, ReadsForRequests, all_of, left_if, Answers, AnswersFirst}
use Rattle.reg_http.specs.Serve.{IsOutput, IsPart, IsServeRefusal, StopsBetween, StopsIn}
use Rattle.reg_http.specs.ServeSteps.{HasAnswered, IsStepRefusal, LosesStep, Steps}
use Rattle.reg_http.specs.declared.limits.TheConstants.{REQUESTS_LIMIT}
use Rattle.reg_http.specs.declared.outcome.RequestOutcome.{RequestOutcome}
use Rattle.reg_http.specs.declared.serving.ServeError.{ServeError}
use Rattle.reg_http.specs.declared.serving.ServeError.TheVariants as errors

-- a reader that is lost in a request at whose front its count of reads began anew
pub lost_request : {R : Type 0} (old begun new : Device R) → faults_of begun ≡ faults_of old → all_reads_of begun ≡ all_reads_of old
    → reads_of begun ≡ 0 → CountsReads begun new → LosesReader begun new → LosesRequest old new
lost_request old begun new faults reads none (few, most, least, more, at) lost = elim lost [
  | inl one ↦ inl (one ∙ ap counted faults)
  | inr p ↦ inr (p.0 ∙ faults, p.1, omega (arith, reads, none, least, p.1))
]

-- what follows of a text that is known, where the counts began anew at its front
pub from_front : (P Q : List ℕ → Type 0) (old begun : Option (List ℕ)) → begun ≡ old → ((text : List ℕ) → P text → Q text)
    → IfSome begun P → IfSome old Q
from_front P Q None begun same f p = tt
from_front P Q (Some text) begun same f p = f text (subst (λ o. IfSome o P) same p)

-- a reader that is lost later was lost since, where no fault was counted before
LosesRequest-later : {R : Type 0} (old mid new : Device R)
    → faults_of mid ≡ faults_of old → counted_by 0 (all_reads_of old) ≤ all_reads_of mid
    → LosesRequest mid new → LosesRequest old new
LosesRequest-later old mid new same least lost =
    elim lost [ inl one ↦ inl (one ∙ ap counted same) | inr p ↦ inr (p.0 ∙ same, p.1, omega (arith, least, p.2)) ]

-- a count that began where a step found the reader began at what was left then
pub began_here : {R : Type 0} (remaining : R → Option (List ℕ)) (old mid new : Device R) (text here : List ℕ)
    → bytes_in remaining old ≡ Some text → bytes_in remaining mid ≡ Some here → KeepsEnd remaining old mid → begun_of new ≡ place_of mid
    → BeganAt old new text here
began_here remaining old mid new text here known left end begun = elim end [
  | inl none ↦ absurd (
      none-some (counted_by (length text) (place_of old))
      (sym none ∙ ap (λ o. option_map (λ bytes. counted_by (length bytes) (place_of old)) o) known))
  | inr same ↦ ap (λ p. counted_by (length here) p) begun ∙ ap (λ o. unwrap_or o 0)
      (sym (ap (λ o. option_map (λ bytes. counted_by (length bytes) (place_of mid)) o) left) ∙ same
      ∙ ap (λ o. option_map (λ bytes. counted_by (length bytes) (place_of old)) o) known)
]

-- the last response joins those before it
all_of-more : (outs : List (List ℕ)) (out : List ℕ) → all_of (outs ++ out ∷ []) ≡ all_of outs ++ out
all_of-more outs out = flat_map-append (λ o. o) outs (out ∷ []) ∙ ap (λ last. all_of outs ++ last) (append-nil out)

module _ {D : Type 0} (asks : D → Query → Result Answer AllocError → D → Type 0) (commands : D → Command → Reply → D → Type 0) where
  -- one more request is answered
  pub Answers-more : (old mid new : D) (text left rest : Option (List ℕ)) (outs : List (List ℕ)) (out : List ℕ)
      → Answers asks commands old text outs mid left → AnswersFirst asks commands mid left out new rest
      → Answers asks commands old text (outs ++ out ∷ []) new rest
  Answers-more old mid new text left rest [] out (same, is) first =
      let moved = subst (λ t. AnswersFirst asks commands mid t out new rest) is first in
      (new, rest, subst (λ d. AnswersFirst asks commands d text out new rest) same moved, (refl, refl))
  Answers-more old mid new text left rest (o ∷ outs) out (next, after, begins, more) first =
      (next, after, begins, Answers-more next mid new after left rest outs out more first)

  HasAnswered-none : (old : D) (input before : Option (List ℕ)) → HasAnswered asks commands old input 0 before before input old
  HasAnswered-none old None before = tt
  HasAnswered-none old (Some text) before = ([], text, refl, (refl, refl), refl, Appends-nil before)

  pub HasAnswered-begun : (old : D) (input before after : Option (List ℕ))
      → after ≡ before → HasAnswered asks commands old input 0 before after input old
  HasAnswered-begun old input before after same =
      subst (λ a. HasAnswered asks commands old input 0 before a input old) (sym same) (HasAnswered-none old input before)

  -- what a step did, of which it is known whether there was a request
  step_of : (mid new : D) (middle after left rest : Option (List ℕ)) (found known : Option RequestOutcome) → found ≡ known
      → IfSome left (λ text. Steps asks commands mid text middle after rest new found)
      → IfSome left (λ text. Steps asks commands mid text middle after rest new known)
  step_of mid new middle after left rest found known is step =
      subst (λ o. IfSome left (λ text. Steps asks commands mid text middle after rest new o)) is step

  -- the step that answers a request after which more may come
  pub HasAnswered-more : (old mid new : D) (input before middle after left rest : Option (List ℕ)) (count : ℕ)
      → HasAnswered asks commands old input count before middle left mid
      → (found : Option RequestOutcome) (outcome : RequestOutcome) → found ≡ Some outcome → outcome.closes ≡ false
      → IfSome left (λ text. Steps asks commands mid text middle after rest new found)
      → HasAnswered asks commands old input (count + 1) before after rest new
  HasAnswered-more old mid new None before middle after left rest count done found outcome known stays step = tt
  HasAnswered-more old mid new (Some text) before middle after left rest count
      (outs, here, is, answers, counted, written) found outcome known stays step =
      let (out, more, goes, first, appends, what) = subst (λ l. IfSome l (λ t. Steps asks commands mid t middle after rest new (Some outcome))) is
      (step_of mid new middle after left rest found (Some outcome) known step) in (
        outs ++ out ∷ [],
        more,
        goes stays,
        Answers-more old mid new (Some text) (Some here) (Some more) outs out answers
            (subst (λ c. AnswersFirst asks commands mid (Some here) out new (left_if c more)) stays first),
        ap (λ n. n + 1) counted ∙ sym (length-append outs (out ∷ [])),
        subst (Appends before after) (sym (all_of-more outs out)) (Appends-trans before middle after (all_of outs) out written appends),
      )

  -- what is written once no request is left
  pub IsPart-over : (old mid new : D) (input before middle after left rest : Option (List ℕ)) (count : ℕ) → count ≤ REQUESTS_LIMIT
      → HasAnswered asks commands old input count before middle left mid
      → (found : Option RequestOutcome) → found ≡ None → IfSome left (λ text. Steps asks commands mid text middle after rest new found)
      → IfSome input (λ text. IsPart asks commands old text count false before after rest new)
  IsPart-over old mid new None before middle after left rest count few done found ended step = tt
  IsPart-over old mid new (Some text) before middle after left rest count few (outs, here, is, answers, counted, written) found ended step =
      let (none, same, kept) = subst (λ l. IfSome l (λ t. Steps asks commands mid t middle after rest new None)) is
      (step_of mid new middle after left rest found None ended step) in (
        outs,
        Some here,
        subst (λ d. Answers asks commands old (Some text) outs d (Some here)) (sym same) answers,
        none,
        counted,
        few,
        Appends-kept before middle after (all_of outs) written kept,
      )

  -- what is written once a response closed the connection
  pub IsPart-closed : (old mid new : D) (input before middle after left rest : Option (List ℕ)) (count : ℕ) → count < REQUESTS_LIMIT
      → HasAnswered asks commands old input count before middle left mid
      → (found : Option RequestOutcome) (outcome : RequestOutcome) → found ≡ Some outcome → outcome.closes ≡ true
      → IfSome left (λ text. Steps asks commands mid text middle after rest new found)
      → IfSome input (λ text. IsPart asks commands old text (count + 1) false before after rest new)
  IsPart-closed old mid new None before middle after left rest count few done found outcome known closed step = tt
  IsPart-closed old mid new (Some text) before middle after left rest count few
      (outs, here, is, answers, counted, written) found outcome known closed step =
      let (out, more, goes, first, appends, what) = subst (λ l. IfSome l (λ t. Steps asks commands mid t middle after rest new (Some outcome))) is
      (step_of mid new middle after left rest found (Some outcome) known step) in
      let last = subst (λ c. AnswersFirst asks commands mid (Some here) out new (left_if c more)) closed first in
      let whole = Answers-more old mid new (Some text) (Some here) None outs out answers last in (
        outs ++ out ∷ [],
        None,
        whole,
        tt,
        ap (λ n. n + 1) counted ∙ sym (length-append outs (out ∷ [])),
        omega (arith, few),
        subst (Appends before after) (sym (all_of-more outs out)) (Appends-trans before middle after (all_of outs) out written appends),
      )

  -- what is written once as many are answered as may be
  pub IsPart-full : (old new : D) (input before after left : Option (List ℕ)) (count : ℕ) → count ≡ REQUESTS_LIMIT
      → HasAnswered asks commands old input count before after left new
      → IfSome input (λ text. IsPart asks commands old text REQUESTS_LIMIT true before after left new)
  IsPart-full old new None before after left count full done = tt
  IsPart-full old new (Some text) before after left count full (outs, here, is, answers, counted, written) =
      (outs, Some here, answers, (here, refl, is, refl), sym full ∙ counted, omega arith, written)

  -- a part is an output
  pub IsOutput-part : (old new : D) (text : List ℕ) (count : ℕ) (goes : Bool) (before after left : Option (List ℕ))
      → IsPart asks commands old text count goes before after left new
      → (out : List ℕ) × IsOutput asks commands old text count out new × Appends before after out
  IsOutput-part old new text count true before after left (outs, rest, answers, goes, counted, few, written) =
      (all_of outs, (outs, rest, answers, inr goes.3, counted, few, refl), written)
  IsOutput-part old new text count false before after left (outs, rest, answers, none, counted, few, written) =
      (all_of outs, (outs, rest, answers, inl none, counted, few, refl), written)

  pub IsOutput-of : (old new : D) (input before after left : Option (List ℕ)) (count : ℕ) (goes : Bool)
      → IfSome input (λ text. IsPart asks commands old text count goes before after left new)
      → IfSome input (λ text. (out : List ℕ) × IsOutput asks commands old text count out new × Appends before after out)
  IsOutput-of old new None before after left count goes part = tt
  IsOutput-of old new (Some text) before after left count goes part = IsOutput-part old new text count goes before after left part

  StopsBetween-of : {R : Type 0} (reader reader' : Device R) (old mid new : D)
      (input before middle after left rest : Option (List ℕ)) (count : ℕ)
      → count < REQUESTS_LIMIT → ReadsForRequests reader reader' (count + 1)
      → ((text here : List ℕ) → input ≡ Some text → left ≡ Some here → BeganAt reader reader' text here)
      → HasAnswered asks commands old input count before middle left mid
      → IfSome left (λ text. TakesShort text rest) → new ≡ mid → Keeps middle after
      → IfSome input (λ text. StopsBetween asks commands reader reader' old text rest before after new)
  StopsBetween-of reader reader' old mid new None before middle after left rest count few reads began done short same kept = tt
  StopsBetween-of reader reader' old mid new (Some text) before middle after left rest count few reads began
      (outs, here, is, answers, many, written) short same kept = (
        outs,
        here,
        subst (λ d. Answers asks commands old (Some text) outs d (Some here)) (sym same) answers,
        subst (λ l. IfSome l (λ t. TakesShort t rest)) is short,
        Appends-kept before middle after (all_of outs) written kept,
        subst (λ n. n < REQUESTS_LIMIT) many few,
        began text here refl is,
        subst (λ n. ReadsForRequests reader reader' (n + 1)) many reads,
      )

  -- a part whose end is not told
  pub IsPart-some : (old new : D) (input before after left : Option (List ℕ)) (count : ℕ) (goes : Bool)
      → IfSome input (λ text. IsPart asks commands old text count goes before after left new)
      → IfSome input (λ text. (goes' : Bool) × IsPart asks commands old text count goes' before after left new)
  IsPart-some old new None before after left count goes part = tt
  IsPart-some old new (Some text) before after left count goes part = (goes, part)

  pub StopsIn-of : (old mid new : D) (input before middle after left : Option (List ℕ)) (count : ℕ) → count < REQUESTS_LIMIT
      → HasAnswered asks commands old input count before middle left mid
      → IfSome left (λ text. (out : List ℕ) × (rest : Option (List ℕ)) × AnswersFirst asks commands mid (Some text) out new rest
      × AppendsFront middle after out)
      → IfSome input (λ text. StopsIn asks commands old text before after new)
  StopsIn-of old mid new None before middle after left count few done step = tt
  StopsIn-of old mid new (Some text) before middle after left count few (outs, here, is, answers, many, written) step =
      let (out, rest, first, (front, lost, parts, appends)) = subst (λ l. IfSome l (λ t. (out : List ℕ) × (rest : Option (List ℕ))
      × AnswersFirst asks commands mid (Some t) out new rest × AppendsFront middle after out)) is step in (
        outs,
        subst (λ n. n < REQUESTS_LIMIT) many few,
        (
          Some here,
          mid,
          answers,
          out,
          rest,
          first,
          front,
          lost,
          parts,
          Appends-trans before middle after (all_of outs) front written appends,
        ),
      )

  -- a response whose writer was lost, where the counts of reads began anew at the front of its request
  pub lost_response : {W : Type 0} (P : List ℕ → Type 0) (writer writer' : Device W) (old new : D) (input begun before after : Option (List ℕ))
      → begun ≡ input → ((text : List ℕ) → P text → LosesStep asks commands writer writer' old text before after new) → IfSome begun P
      → IfSome input (λ text. (out : List ℕ) × (rest : Option (List ℕ))
      × AnswersFirst asks commands old (Some text) out new rest × AppendsFront before after out)
  lost_response P writer writer' old new None begun before after same loses known = tt
  lost_response P writer writer' old new (Some text) begun before after same loses known =
      let (lost, out, rest, first, front) = loses text (subst (λ o. IfSome o P) same known) in (out, rest, first, front)

  -- a step that was refused ends the whole
  pub IsServeRefusal-step : {R W : Type 0} (reader reader' reader'' : Device R) (writer writer' writer'' : Device W)
      (old mid new : D) (input before middle after left rest : Option (List ℕ)) (count : ℕ) (e : ServeError)
      → faults_of reader' ≡ faults_of reader → faults_of writer' ≡ faults_of writer
      → counted_by 0 (all_reads_of reader) ≤ all_reads_of reader'
      → counted_by 0 (all_interruptions_of writer) ≤ all_interruptions_of writer'
      → count < REQUESTS_LIMIT → ReadsForRequests reader reader'' (count + 1)
      → ((text here : List ℕ) → input ≡ Some text → left ≡ Some here
      → begun_of reader'' ≡ place_of reader' → BeganAt reader reader'' text here)
      → HasAnswered asks commands old input count before middle left mid
      → IsStepRefusal asks commands reader' reader'' writer' writer'' left rest middle after mid new e
      → IsServeRefusal asks commands reader reader'' writer writer'' input rest before after old new e
  IsServeRefusal-step reader reader' reader'' writer writer' writer'' old mid new input before middle after left rest
      count errors.ReadFault reads writes least lasting few most began done (lost, other, short, same, kept, begun) = (
        LosesRequest-later reader reader' reader'' reads least lost,
        other ∙ writes,
        StopsBetween-of reader reader'' old mid new input before middle after left rest count few most (λ text here known is.
            began text here known is begun) done short same kept,
      )
  IsServeRefusal-step reader reader' reader'' writer writer' writer'' old mid new input before middle after left
      rest count errors.WriteFault reads writes least lasting few most began done (lost, since, other, step) = (
        LosesWriter-later writer writer' writer'' writes lost,
        IsLostSince-later writer writer' writer'' writes lasting since,
        other ∙ reads,
        StopsIn-of old mid new input before middle after left count few done step,
      )
