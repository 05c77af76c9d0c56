-- What holds of all that a course may do.
use Rattle.std.proofs.Common.{◌≡◌, ◌⊎◌, ℕ, suc, ◌+◌, ◌≤◌, true, false, ◌&&◌, Bool, nat_le, length, List, [], ◌∷◌}
use Rattle.std.proofs.Common.{All, Option, Some, None, Ok, Err, refl, sym, ap, subst, ◌∙◌, inl, inr, eq-eqb}
use Rattle.std.proofs.lemmas.Bool.{leb-true}
use Rattle.std.proofs.lemmas.List.Elements.{All-from_recursion}
use Rattle.std.specs.List.{AllByRecursion}
use Rattle.reg_rules.specs.reg_levels.Texts.{TextsMeet}
use Rattle.reg_rules.specs.reg_modes.Permitted.{Permit, granted}
use Rattle.reg_rules.specs.reg_records.declared.limits.TheConstants.{OFFSET_LIMIT}
use Rattle.reg_rules.specs.reg_records.declared.record.Record.{Record}
use Rattle.reg_rules.specs.Writings.{numbered, written_at}
use Rattle.reg_rules.specs.declared.writing.Writing.{Writing}
use Rattle.reg_leader.specs.Course.{Course, Refused, Does, IfMet, IsOutcome, ◌▸◌, where_found, if_offsets_last}
use Rattle.reg_leader.specs.OneStep.{goes_on}
use Rattle.reg_leader.specs.declared.reply.Reply.{Reply}

numbered-goes_on : (n : ℕ) (ws : List Writing) → goes_on n (numbered n ws) ≡ true
numbered-goes_on n [] = refl
numbered-goes_on n (w ∷ ws) = ap (λ b. b && goes_on (suc n) (numbered (suc n) ws)) (eq-eqb n n refl) ∙ numbered-goes_on (suc n) ws

numbered-length : (n : ℕ) (ws : List Writing) → length (numbered n ws) ≡ length ws
numbered-length n [] = refl
numbered-length n (w ∷ ws) = ap suc (numbered-length (suc n) ws)

-- what the records of writings have
module _ {Q : Writing → Type 0} (P : Record → Type 0) (each : (n : ℕ) (w : Writing) → Q w → P (written_at n w)) where
  numbered-each : (n : ℕ) (ws : List Writing) → AllByRecursion Q ws → AllByRecursion P (numbered n ws)
  numbered-each n [] all = tt
  numbered-each n (w ∷ ws) all = (each n w all.0, numbered-each (suc n) ws all.1)

  pub numbered-all : (n : ℕ) (ws : List Writing) → AllByRecursion Q ws → All P (numbered n ws)
  numbered-all n ws all = All-from_recursion P (numbered n ws) (numbered-each n ws all)

-- a batch is empty or is what a course writes, numbered
if_last-batch : (b : Bool) (reply r : Reply) (ws batch : List Record)
    → if_offsets_last b reply ws ≡ (r, batch) → (batch ≡ []) ⊎ ((b ≡ true) × (r ≡ reply) × (batch ≡ ws))
if_last-batch true reply r ws batch e = inr (refl, sym (ap (λ p. p.0) e), sym (ap (λ p. p.1) e))
if_last-batch false reply r ws batch e = inl (sym (ap (λ p. p.1) e))

module _ (P : Reply → List Writing → Type 0) where
  abbrev pub Of : Course → Type 0
  Of (Refused refusal) = Unit {0}
  Of (Does reply ws) = P reply ws
  Of (IfMet level new olds rest) = TextsMeet level new olds → Of rest

  pub of_then : (t : Permit) (c : Course) → Of c → Of (t ▸ c)
  of_then (Ok _) c h = h
  of_then (Err r) c h = tt

  -- the same, knowing that the test passed
  pub of_passed : (t : Permit) (c : Course) → (t ≡ granted → Of c) → Of (t ▸ c)
  of_passed (Ok _) c h = h refl
  of_passed (Err r) c h = tt

  pub of_found : {A : Type 0} (o : Option A) (f : A → Course) (c : Course)
      → ((x : A) → o ≡ Some x → Of (f x)) → (o ≡ None → Of c) → Of (where_found o f c)
  of_found None f c g h = h refl
  of_found (Some x) f c g h = g x refl

  -- what was written is nothing, or what the course does, within the limit of offsets
  pub outcome-within : (n : ℕ) (c : Course) (r : Reply) (batch : List Record) → Of c → IsOutcome n c r batch
      → (batch ≡ []) ⊎ ((ws : List Writing) × (batch ≡ numbered n ws) × P r ws × (nat_le (n + length ws) (suc OFFSET_LIMIT) ≡ true))
  outcome-within n (Refused refusal) r batch h e = inl e.1
  outcome-within n (Does reply ws) r batch h e =
      elim (if_last-batch (nat_le (n + length ws) (suc OFFSET_LIMIT)) reply r (numbered n ws) batch e) [
        | inl none ↦ inl none
        | inr some ↦ inr (ws, some.2, subst (λ x. P x ws) (sym some.1) h, some.0)
      ]
  outcome-within n (IfMet level new olds rest) r batch h (inl met) = outcome-within n rest r batch (h met.0) met.1
  outcome-within n (IfMet level new olds rest) r batch h (inr clash) = inl clash.2.1

  pub outcome-of : (n : ℕ) (c : Course) (r : Reply) (batch : List Record) → Of c → IsOutcome n c r batch
      → (batch ≡ []) ⊎ ((ws : List Writing) × (batch ≡ numbered n ws) × P r ws)
  outcome-of n c r batch h e = elim (outcome-within n c r batch h e) [ inl none ↦ inl none | inr some ↦ inr (some.0, some.1, some.2) ]

-- whatever a course does, its batch goes on at the next offset
of_anything : (c : Course) → Of (λ reply ws. Unit {0}) c
of_anything (Refused refusal) = tt
of_anything (Does reply ws) = tt
of_anything (IfMet level new olds rest) = λ _. of_anything rest

pub outcome-goes_on : (n : ℕ) (c : Course) (r : Reply) (batch : List Record) → IsOutcome n c r batch → goes_on n batch ≡ true
outcome-goes_on n c r batch e =
    elim (outcome-of (λ reply ws. Unit {0}) n c r batch (of_anything c) e) [
      | inl none ↦ ap (goes_on n) none
      | inr some ↦ ap (goes_on n) some.1 ∙ numbered-goes_on n some.0
    ]

numbered-ends : (n : ℕ) (reply r : Reply) (ws : List Writing) (batch : List Record)
    → IsOutcome n (Does reply ws) r batch → (batch ≡ []) ⊎ (n + length batch ≤ suc OFFSET_LIMIT)
numbered-ends n reply r ws batch e =
    elim (if_last-batch (nat_le (n + length ws) (suc OFFSET_LIMIT)) reply r (numbered n ws) batch e) [
      | inl none ↦ inl none
      | inr some ↦ inr (
          subst (λ k. n + k ≤ suc OFFSET_LIMIT) (sym (ap length some.2 ∙ numbered-length n ws))
          (leb-true (n + length ws) (suc OFFSET_LIMIT) some.0))
    ]

-- whatever a course does, the offsets of its batch are within the limit
pub outcome-ends : (n : ℕ) (c : Course) (r : Reply) (batch : List Record)
    → IsOutcome n c r batch → (batch ≡ []) ⊎ (n + length batch ≤ suc OFFSET_LIMIT)
outcome-ends n (Refused refusal) r batch e = inl e.1
outcome-ends n (Does reply ws) r batch e = numbered-ends n reply r ws batch e
outcome-ends n (IfMet level new olds rest) r batch (inl met) = outcome-ends n rest r batch met.1
outcome-ends n (IfMet level new olds rest) r batch (inr clash) = inl clash.2.1
