-- Text that is short of a request gets one response or none, and nothing is left after it.
use Rattle.std.proofs.Common.{◌≡◌, ◌<◌, ◌≤◌, ◌∷◌, [], List, ℕ, Bool, true, false, Some, None, refl}
use Rattle.std.proofs.Common.{sym, ap, subst, ◌∙◌, inl, inr, arith, append-nil, length}
use Rattle.std.specs.Prelude.{IfErr, IfOk, OnOk, Option, Result, Ok, Err}
use Rattle.std.specs.Io.KnownBytes.{Appends}
use Rattle.std.specs.declared.alloc.AllocError.{AllocError}
use Rattle.std.proofs.KnownBytes.{Appends-kept, Appends-nil}
use Rattle.std.proofs.lemmas.List.{drop_all}
use Rattle.httparse.specs.Grammar.{RequestHead}
use Rattle.httparse.proofs.GrammarLemmas.{request_unique}
use Rattle.reg_leader.specs.declared.command.Command.{Command}
use Rattle.reg_leader.specs.declared.reply.Reply.{Reply}
use Rattle.reg_lookup.specs.declared.answered.Answer.{Answer}
use Rattle.reg_lookup.specs.declared.query.Query.{Query}
use Rattle.reg_records.specs.declared.device.Device.{Device}
use Rattle.reg_messages.specs.Fields.{body_length}
use Rattle.reg_messages.specs.Head.{Front, front_of, head, no_head, over, IsHead}
use Rattle.reg_messages.specs.Messages.{after_body, fields_of}
use Rattle.reg_messages.specs.Reading.{IsShort}
use Rattle.reg_messages.proofs.Heads.{front_of-over}
use Rattle.reg_http.specs.Serve.{Answers, AnswersFirst, AnswersFront, AnswersHead, left_if}
use Rattle.reg_http.specs.ServeSteps.{Steps}
use Rattle.reg_http.specs.declared.outcome.RequestOutcome.{RequestOutcome}
use Rattle.reg_http.specs.declared.serving.ServeError.{ServeError}
use Rattle.reg_conversation.specs.Conversation.{EndsAs, FailsFirst, RepliesAll}

-- nothing is short of a request
pub over-nil : front_of [] ≡ over
over-nil = front_of-over [] (omega arith) refl

pub short-nil : IsShort (front_of [])
short-nil = subst IsShort (sym over-nil) tt

-- nothing is left after a body that was cut
over-after : (h : RequestHead) (after : List ℕ) → length after ≤ body_length (fields_of h) → front_of (after_body h after) ≡ over
over-after h after cut = ap front_of (drop_all (body_length (fields_of h)) after cut) ∙ over-nil

same-length : (bytes : List ℕ) (h k : RequestHead) → IsHead bytes h → IsHead bytes k → body_length (fields_of h) ≡ body_length (fields_of k)
same-length bytes h k is other = ap (λ x. body_length (fields_of x)) (request_unique bytes h k [] [] is.0 other.0).0

module _ {D : Type 0} (asks : D → Query → Result Answer AllocError → D → Type 0) (commands : D → Command → Reply → D → Type 0) where
  last-head : (old new : D) (h : RequestHead) (after out rest : List ℕ) → length after < body_length (fields_of h)
      → AnswersHead asks commands old h after out new (Some rest) → front_of rest ≡ over
  last-head old new h after out rest cut (true, left, did) = absurd (cc)
  last-head old new h after out rest cut (false, left, did) =
      let same : rest ≡ after_body h after = cc in ap front_of same ∙ over-after h after (omega (arith, cut))

  -- after the response to a short front no request is left
  last-front : (old new : D) (f : Front) (out rest : List ℕ) → IsShort f
      → AnswersFront asks commands old f out new (Some rest) → front_of rest ≡ over
  last-front old new over out rest short answers = absurd answers
  last-front old new (no_head refusal) out rest short (same, is, closed) = absurd (cc)
  last-front old new (head bytes after) out rest (h, is_head, cut) answers = elim answers [
    | inl p ↦ last-head old new p.0 after out rest (omega (arith, cut, same-length bytes h p.0 is_head p.1)) p.2
    | inr q ↦ (let closed : Some rest ≡ None = q.1.2 in absurd (cc))
  ]

  last-left : (old new : D) (text out rest : List ℕ) (before after : Option (List ℕ)) (closes : Bool) → IsShort (front_of text)
      → AnswersFirst asks commands old (Some text) out new (left_if closes rest) → Appends before after out
      → RepliesAll asks commands old text before after new
  last-left old new text out rest before after true short first written =
      let answers : Answers asks commands old (Some text) (out ∷ []) new None = (new, None, first, (refl, refl)) in (
        out ∷ [],
        None,
        answers,
        tt,
        λ few. (out ∷ [], None, answers, inl tt, refl, few, refl),
        subst (Appends before after) (sym (append-nil out)) written,
      )
  last-left old new text out rest before after false short first written =
      let answers : Answers asks commands old (Some text) (out ∷ []) new (Some rest) = (new, Some rest, first, (refl, refl)) in
      let none : front_of rest ≡ over = last-front old new (front_of text) out rest short first in (
        out ∷ [],
        Some rest,
        answers,
        none,
        λ few. (out ∷ [], Some rest, answers, inl none, refl, few, refl),
        subst (Appends before after) (sym (append-nil out)) written,
      )

  last-step : (old new : D) (text : List ℕ) (before after left : Option (List ℕ)) (found : Option RequestOutcome) → IsShort (front_of text)
      → Steps asks commands old text before after left new found
      → RepliesAll asks commands old text before after new × EndsAs text before after found
  last-step old new text before after left None short (none, same, kept) = (
    (
      [],
      Some text,
      (same, refl),
      none,
      λ few. ([], Some text, (same, refl), inl none, refl, few, refl),
      Appends-kept before before after [] (Appends-nil before) kept,
    ),
    kept,
  )
  last-step old new text before after left (Some outcome) short (out, rest, goes, first, written, what) =
      (last-left old new text out rest before after outcome.closes short first written, (out, written, what))

  -- the same over those bytes, by another name
  last-replies : (old new : D) (text part : List ℕ) (before after : Option (List ℕ)) (found : Option RequestOutcome)
      → IsShort (front_of text) → part ≡ text
      → (left : Option (List ℕ)) × Steps asks commands old part before after left new found
      → RepliesAll asks commands old text before after new × EndsAs text before after found
  last-replies old new text part before after found short is step =
      let (left, done) = subst (λ p. (left : Option (List ℕ)) × Steps asks commands old p before after left new found) is step in
      last-step old new text before after left found short done

  pub last-answered : (r : Result (Option RequestOutcome) ServeError) (old new : D) (text part : List ℕ) (before after : Option (List ℕ))
      → IsShort (front_of text) → part ≡ text
      → IfOk r (λ found. (left : Option (List ℕ)) × Steps asks commands old part before after left new found)
      → OnOk r (RepliesAll asks commands old text before after new)
  last-answered (Ok found) old new text part before after short is step = (last-replies old new text part before after found short is step).0
  last-answered (Err e) old new text part before after short is step = tt

  pub last-told : (r : Result (Option RequestOutcome) ServeError) (old new : D) (text part : List ℕ) (before after : Option (List ℕ))
      → IsShort (front_of text) → part ≡ text
      → IfOk r (λ found. (left : Option (List ℕ)) × Steps asks commands old part before after left new found)
      → IfOk r (EndsAs text before after)
  last-told (Ok found) old new text part before after short is step = (last-replies old new text part before after found short is step).1
  last-told (Err e) old new text part before after short is step = tt

  pub last-refused : {A W : Type 0} (r : Result A ServeError) (writer writer' : Device W) (old new : D) (text part : List ℕ)
      (before after : Option (List ℕ)) → part ≡ text
      → IfErr r (FailsFirst asks commands writer writer' old part before after new)
      → IfErr r (FailsFirst asks commands writer writer' old text before after new)
  last-refused (Ok x) writer writer' old new text part before after is fails = tt
  last-refused (Err e) writer writer' old new text part before after is fails =
      subst (λ t. FailsFirst asks commands writer writer' old t before after new e) is fails
