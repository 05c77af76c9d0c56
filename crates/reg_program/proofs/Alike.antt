-- Where one desk does what another does, a server at the one answers what a server at the other answers.
use Rattle.std.proofs.Common.{◌≡◌, ◌⊎◌, List, [], ◌∷◌, ℕ, Bool, None, Some, IfSome, refl, sym, subst, inl, inr}
use Rattle.std.specs.Prelude.{Option, Result}
use Rattle.std.specs.declared.alloc.AllocError.{AllocError}
use Rattle.httparse.specs.Grammar.{RequestHead}
use Rattle.reg_leader.specs.declared.command.Command.{Command}
use Rattle.reg_leader.specs.declared.reply.Reply.{Reply}
use Rattle.reg_lookup.specs.declared.answered.Answer.{Answer}
use Rattle.reg_lookup.specs.declared.query.Query.{Query}
use Rattle.reg_messages.specs.Head.{Front, front_of, head, no_head, over}
use Rattle.reg_messages.specs.Messages.{wants_close}
use Rattle.reg_records.specs.declared.device.Device.{Device}
use Rattle.reg_refusals.specs.declared.refusal.Refusal.{Refusal}
use Rattle.reg_refusals.specs.declared.refusal.Refusal.TheVariants as refusals
use Rattle.reg_requests.specs.Asked.{asked_of}
use Rattle.reg_requests.specs.declared.asked.Asked.{Asked}
use Rattle.reg_requests.specs.declared.asked.Asked.TheVariants as asked
use Rattle.reg_http.specs.Requests.{request_of}
use Rattle.reg_http.specs.Serve.{Answers, AnswersFirst, AnswersFront, AnswersHead, Does, IsOutput, IsOver}
use Rattle.reg_http.specs.Serve.{IsServeRefusal, LacksMemory, Refuses, StopsBetween, StopsIn, StopsInNext}
use Rattle.reg_http.specs.declared.limits.TheConstants.{REQUESTS_LIMIT}
use Rattle.reg_http.specs.declared.serving.ServeError.{ServeError}
use Rattle.reg_http.specs.declared.serving.ServeError.TheVariants as errors

module _ {D E : Type 0}
    (asks : D → Query → Result Answer AllocError → D → Type 0) (commands : D → Command → Reply → D → Type 0)
    (asks' : E → Query → Result Answer AllocError → E → Type 0) (commands' : E → Command → Reply → E → Type 0) (Stands : D → E → Type 0)
    (ask : (d d' : D) (e : E) (query : Query) (answered : Result Answer AllocError) → Stands d e → asks d query answered d'
    → (e' : E) × Stands d' e' × asks' e query answered e')
    (command : (d d' : D) (e : E) (c : Command) (reply : Reply) → Stands d e → commands d c reply d'
    → (e' : E) × Stands d' e' × commands' e c reply e') where
  stays : (d d' : D) (e : E) → d' ≡ d → Stands d e → Stands d' e
  stays d d' e same stands = subst (λ x. Stands x e) (sym same) stands

  does : (d d' : D) (e : E) (a : Asked) (wants : Bool) (out : List ℕ) (closes : Bool)
      → Stands d e → Does asks commands d a wants out closes d'
      → (e' : E) × Stands d' e' × Does asks' commands' e a wants out closes e'
  does d d' e (asked.Query query) wants out closes stands (answer, did, is, shut) =
      let (e', there, done) = ask d d' e query answer stands did in (e', there, (answer, done, is, shut))
  does d d' e (asked.Command c) wants out closes stands (reply, did, is, shut) =
      let (e', there, done) = command d d' e c reply stands did in (e', there, (reply, done, is, shut))
  does d d' e (asked.Refused refusal ends) wants out closes stands (same, is, shut) = (e, stays d d' e same stands, (refl, is, shut))

  did : (d d' : D) (e : E) (h : RequestHead) (after out : List ℕ) (closes : Bool) → Stands d e
      → Does asks commands d (asked_of (request_of h after)) (wants_close h) out closes d' ⊎ LacksMemory asks commands d h out closes d'
      → (e' : E) × Stands d' e'
      × (
      Does asks' commands' e (asked_of (request_of h after)) (wants_close h) out closes e'
      ⊎ LacksMemory asks' commands' e h out closes e')
  did d d' e h after out closes stands (inl done) =
      let (e', there, is) = does d d' e (asked_of (request_of h after)) (wants_close h) out closes stands done in (e', there, inl is)
  did d d' e h after out closes stands (inr (ok, shut, same, is)) = (e, stays d d' e same stands, inr (ok, shut, refl, is))

  at_head : (d d' : D) (e : E) (h : RequestHead) (after out : List ℕ) (left : Option (List ℕ))
      → Stands d e → AnswersHead asks commands d h after out d' left
      → (e' : E) × Stands d' e' × AnswersHead asks' commands' e h after out e' left
  at_head d d' e h after out left stands (closes, is, done) =
      let (e', there, does') = did d d' e h after out closes stands done in (e', there, (closes, is, does'))

  refuses : (d d' : D) (e : E) (refusal : Refusal) (out : List ℕ) (left : Option (List ℕ))
      → Stands d e → Refuses asks commands d refusal out d' left
      → (e' : E) × Stands d' e' × Refuses asks' commands' e refusal out e' left
  refuses d d' e refusal out left stands (same, is, none) = (e, stays d d' e same stands, (refl, is, none))

  at_front : (d d' : D) (e : E) (front : Front) (out : List ℕ) (left : Option (List ℕ))
      → Stands d e → AnswersFront asks commands d front out d' left
      → (e' : E) × Stands d' e' × AnswersFront asks' commands' e front out e' left
  at_front d d' e over out left stands none = absurd none
  at_front d d' e (no_head refusal) out left stands refused = refuses d d' e refusal out left stands refused
  at_front d d' e (head bytes after) out left stands (inl (h, is, answers)) =
      let (e', there, more) = at_head d d' e h after out left stands answers in (e', there, inl (h, is, more))
  at_front d d' e (head bytes after) out left stands (inr (none, refused)) =
      let (e', there, more) = refuses d d' e refusals.BadRequest out left stands refused in (e', there, inr (none, more))

  first : (d d' : D) (e : E) (text : Option (List ℕ)) (out : List ℕ) (left : Option (List ℕ))
      → Stands d e → AnswersFirst asks commands d text out d' left
      → (e' : E) × Stands d' e' × AnswersFirst asks' commands' e text out e' left
  first d d' e None out left stands none = absurd none
  first d d' e (Some text) out left stands answers = at_front d d' e (front_of text) out left stands answers

  answers : (d d' : D) (e : E) (text : Option (List ℕ)) (outs : List (List ℕ)) (left : Option (List ℕ))
      → Stands d e → Answers asks commands d text outs d' left
      → (e' : E) × Stands d' e' × Answers asks' commands' e text outs e' left
  answers d d' e text [] left stands (same, is) = (e, stays d d' e same stands, (refl, is))
  answers d d' e text (out ∷ outs) left stands (mid, rest, begins, more) =
      let (m, here, one) = first d mid e text out rest stands begins in
      let (e', there, others) = answers mid d' m rest outs left here more in
      (e', there, (m, rest, one, others))

  ended : (left : Option (List ℕ)) → IsOver asks commands left → IsOver asks' commands' left
  ended None is = is
  ended (Some text) is = is

  pub output : (d d' : D) (e : E) (text : List ℕ) (count : ℕ) (out : List ℕ) → Stands d e → IsOutput asks commands d text count out d'
      → (e' : E) × Stands d' e' × IsOutput asks' commands' e text count out e'
  output d d' e text count out stands (outs, left, done, ends, counted, few, is) =
      let (e', there, more) = answers d d' e (Some text) outs left stands done in
      let last : IsOver asks' commands' left ⊎ (count ≡ REQUESTS_LIMIT) =
      elim ends [ inl is ↦ inl (ended left is) | inr full ↦ inr full ] in
      (e', there, (outs, left, more, last, counted, few, is))

  in_next : (d d' : D) (e : E) (text : List ℕ) (outs : List (List ℕ)) (before after : Option (List ℕ))
      → Stands d e → StopsInNext asks commands d text outs before after d'
      → (e' : E) × Stands d' e' × StopsInNext asks' commands' e text outs before after e'
  in_next d d' e text outs before after stands (left, mid, done, out, rest, begins, front, lost, parts, written) =
      let (m, here, more) = answers d mid e (Some text) outs left stands done in
      let (e', there, one) = first mid d' m left out rest here begins in
      (e', there, (left, m, more, out, rest, one, front, lost, parts, written))

  stops_in : (d d' : D) (e : E) (input before after : Option (List ℕ)) → Stands d e
      → IfSome input (λ text. StopsIn asks commands d text before after d')
      → (d'' : D) × (e' : E) × Stands d'' e' × IfSome input (λ text. StopsIn asks' commands' e text before after e')
  stops_in d d' e None before after stands done = (d, e, stands, tt)
  stops_in d d' e (Some text) before after stands (outs, few, done) =
      let (e', there, more) = in_next d d' e text outs before after stands done in (d', e', there, (outs, few, more))

  stops_between : {R : Type 0} (reader reader' : Device R) (d d' : D) (e : E) (input left before after : Option (List ℕ)) → Stands d e
      → IfSome input (λ text. StopsBetween asks commands reader reader' d text left before after d')
      → (d'' : D) × (e' : E) × Stands d'' e'
      × IfSome input (λ text. StopsBetween asks' commands' reader reader' e text left before after e')
  stops_between reader reader' d d' e None left before after stands done = (d, e, stands, tt)
  stops_between reader reader' d d' e (Some text) left before after stands (outs, rest, done, short, written, few, began, reads) =
      let (e', there, more) = answers d d' e (Some text) outs (Some rest) stands done in
      (d', e', there, (outs, rest, more, short, written, few, began, reads))

  pub refusal : {R W : Type 0} (reader reader' : Device R) (writer writer' : Device W)
      (input left before after : Option (List ℕ)) (d d' : D) (e : E) (cause : ServeError)
      → Stands d e → IsServeRefusal asks commands reader reader' writer writer' input left before after d d' cause
      → (d'' : D) × (e' : E) × Stands d'' e'
      × IsServeRefusal asks' commands' reader reader' writer writer' input left before after e e' cause
  refusal reader reader' writer writer' input left before after d d' e errors.ReadFault stands (lost, same, done) =
      let (d'', e', there, more) = stops_between reader reader' d d' e input left before after stands done in
      (d'', e', there, (lost, same, more))
  refusal reader reader' writer writer' input left before after d d' e errors.WriteFault stands (lost, since, same, done) =
      let (d'', e', there, more) = stops_in d d' e input before after stands done in (d'', e', there, (lost, since, same, more))
