-- From what the parts of a command come to, to its step.
use Rattle.std.proofs.Common.{◌≡◌, ◌⊎◌, ℕ, List, [], Result, Ok, Err, refl, sym, ap, subst, ◌∙◌, inl, inr}
use Rattle.reg_rules.specs.avro_schema.Reading.{Reading, kept_of}
use Rattle.reg_rules.specs.reg_records.declared.record.Record.{Record}
use Rattle.reg_rules.specs.reg_refusals.Refusal.{no_memory}
use Rattle.reg_rules.specs.reg_refusals.declared.refusal.Refusal.{Refusal}
use Rattle.reg_rules.specs.reg_refusals.declared.refusal.Refusal.TheVariants as refusals
use Rattle.reg_rules.specs.Finding.{IsRead}
use Rattle.reg_rules.specs.reg_set.Records.{Records}
use Rattle.reg_leader.specs.Course.{Course, Refused, Does, IfMet, IsOutcome, where_found}
use Rattle.reg_leader.specs.Deciding.{Follows}
use Rattle.reg_leader.specs.Outcome.{Decides, Concludes}
use Rattle.reg_leader.specs.Step.{IsStep, course_of, register}
use Rattle.reg_leader.specs.Leading.{IsBefore, IsDeed, IsRefusal, LeadsTo, Leaves, before, before_of, if_met}
use Rattle.reg_leader.specs.declared.command.Command.{Command}
use Rattle.reg_leader.specs.declared.decision.Decision.{Decision}
use Rattle.reg_leader.specs.declared.deed.Candidate.{Candidate}
use Rattle.reg_leader.specs.declared.deed.Deed.{Deed}
use Rattle.reg_leader.specs.declared.reply.Reply.{Reply}
use Rattle.reg_leader.specs.declared.reply.Reply.TheVariants as replies

-- a course without a check
pub leads_followed : (course : Course) (r : Result Deed Refusal) → Follows course r → LeadsTo course r
leads_followed course (Ok deed) h = subst (λ c. IsDeed c deed) (sym h) refl
leads_followed course (Err refusal) (inl memory) = inl memory
leads_followed course (Err refusal) (inr h) = inr (subst (λ c. IsRefusal c refusal) (sym h) refl)

-- what is left for the schema that a text means is left for the text
pub before_read : (rs : Records) (n : ℕ) (subject text : List ℕ) (reading : Reading) → IsRead text (Ok reading)
    → (r : Result Candidate Refusal) → Leaves (before_of rs n subject reading) r → IsBefore rs n subject text r
before_read rs n subject text reading (schema, means, kept) r left =
    subst (λ course. Leaves course r) (λ j. λ checked. same checked j) left
  where
    same : (checked : List ℕ → Course) → before_of rs n subject reading checked ≡ before rs n subject text checked
    same checked =
        ap (λ k. before_of rs n subject k checked) (sym kept)
        ∙ sym (ap (λ o. where_found o (λ s. before_of rs n subject (kept_of s) checked) (Refused refusals.InvalidSchema)) means)

-- a registration, by what is known before the check
module _ (rs : Records) (n : ℕ) (subject text : List ℕ) where
  pub leads_refused : (refusal : Refusal)
      → (refusal ≡ no_memory) ⊎ ((checked : List ℕ → Course) → before rs n subject text checked ≡ Refused refusal)
      → LeadsTo (register rs n subject text) (Err refusal)
  leads_refused refusal (inl memory) = inl memory
  leads_refused refusal (inr refused) = inr (subst (λ c. IsRefusal c refusal) (sym (refused (if_met rs subject))) refl)

  pub leads_live : (id : ℕ) (deed : Deed) → deed.reply ≡ replies.Id id → deed.writings.items ≡ []
      → ((checked : List ℕ → Course) → before rs n subject text checked ≡ Does (replies.Id id) [])
      → LeadsTo (register rs n subject text) (Ok deed)
  leads_live id deed reply nothing live =
      leads_followed (register rs n subject text) (Ok deed) (live (if_met rs subject) ∙ (λ j. Does (sym reply j) (sym nothing j)))

  pub leads_new : (normal : List ℕ) → ((checked : List ℕ → Course) → before rs n subject text checked ≡ checked normal)
      → (r : Result Deed Refusal) → LeadsTo (if_met rs subject normal) r → LeadsTo (register rs n subject text) r
  leads_new normal new r h = subst (λ c. LeadsTo c r) (sym (new (if_met rs subject))) h

-- what a deed's records come to, its course does
deed_outcome : (n : ℕ) (course : Course) (deed : Deed) (reply : Reply) (batch : List Record) → IsDeed course deed
    → IsOutcome n (Does deed.reply deed.writings.items) reply batch → IsOutcome n course reply batch
deed_outcome n (Refused refusal) deed reply batch h settled = absurd h
deed_outcome n (Does does ws) deed reply batch h settled = subst (λ c. IsOutcome n c reply batch) (sym h) settled
deed_outcome n (IfMet level new olds rest) deed reply batch h settled = inl (h.0, deed_outcome n rest deed reply batch h.1 settled)

refusal_outcome : (n : ℕ) (course : Course) (told : Refusal) → IsRefusal course told → IsOutcome n course (replies.Refused told) []
refusal_outcome n (Refused refusal) told h = (ap replies.Refused (sym h), refl)
refusal_outcome n (Does does ws) told h = absurd h
refusal_outcome n (IfMet level new olds rest) told (inl h) = inl (h.0, refusal_outcome n rest told h.1)
refusal_outcome n (IfMet level new olds rest) told (inr h) = inr (h.0, h.1, (ap replies.Refused (sym h.2), refl))

module _ (rs : Records) (n : ℕ) (c : Command) where
  pub steps_deed : (deed : Deed) → LeadsTo (course_of rs n c) (Ok deed) → (r : Result Decision Refusal)
      → Concludes n (Does deed.reply deed.writings.items) r → Decides rs n c r
  unfolding IsStep
  steps_deed deed h (Ok decision) settled = deed_outcome n (course_of rs n c) deed decision.reply decision.batch h settled
  steps_deed deed h (Err refusal) (inl memory) = inl memory
  steps_deed deed h (Err refusal) (inr settled) = inr (deed_outcome n (course_of rs n c) deed (replies.Refused refusal) [] h settled)

  pub steps_refused : (refusal : Refusal) → LeadsTo (course_of rs n c) (Err refusal) → Decides rs n c (Err refusal)
  unfolding IsStep
  steps_refused refusal (inl memory) = inl memory
  steps_refused refusal (inr h) = inr (refusal_outcome n (course_of rs n c) refusal h)
