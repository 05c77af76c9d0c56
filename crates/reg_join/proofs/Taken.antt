-- What a keep over a chain took, after a batch.
use Rattle.std.proofs.Common.{◌≡◌, inl, inr, List, [], ◌∷◌, ◌++◌, sym, ap, subst, ◌∙◌}
use Rattle.reg_records.specs.declared.record.Record.{Record}
use Rattle.reg_pen.specs.declared.keep.Kept.{Kept}
use Rattle.reg_pen.specs.declared.keep.Kept.TheVariants.{Taken, Declined, Lost, Unknown}
use Rattle.reg_chain.specs.Chain.{told_after}
use Rattle.reg_join.specs.Joining.{AreTaken, AreTakenAt, KeepsAt, kept_of}
use Rattle.reg_chain.specs.declared.chain.ChainAnswer.{ChainAnswer}
use Rattle.reg_chain.specs.declared.chain.ChainAnswer.TheVariants as answered
use Rattle.reg_join.specs.declared.join_keep.JoinKeep.{JoinKeep}
use Rattle.reg_join.specs.declared.join_keep.Stand.{Stand}
use Rattle.reg_join.specs.declared.join_keep.Stand.TheVariants.{Level, Due, Stopped}

module _ {C : Type 0} (told : C → List (List Record)) (answers : C → List Record → ChainAnswer → C → Type 0) where
  -- what was taken after what became of a batch; none is ever lost
  abbrev pub AreTakenAfter : Kept → JoinKeep C → List (List Record) → List Record → Type 0
  AreTakenAfter Taken keep before batch = AreTaken told keep (before ++ batch ∷ [])
  AreTakenAfter (Declined lack) keep before batch = AreTaken told keep before
  AreTakenAfter Lost keep before batch = ⊥
  AreTakenAfter Unknown keep before batch = AreTaken told keep before

  module _ (k k' : JoinKeep C) (before : List (List Record)) (r : Record) (rs : List Record) where
    -- all that was told
    all_told : (taken : List (List Record)) → k'.stand ≡ Level → told k'.chain ≡ taken → AreTaken told k' taken
    all_told taken level e = subst (λ (s : Stand). AreTakenAt told s (told k'.chain) taken) (sym level) e

    asked : (answer : ChainAnswer) → told k.chain ≡ before → told k'.chain ≡ told_after (told k.chain) (r ∷ rs) answer
        → k'.stand ≡ Level → AreTakenAfter (kept_of answer) k' before (r ∷ rs)
    asked answered.Kept same tells level =
        all_told (before ++ (r ∷ rs) ∷ []) level (tells ∙ ap (λ (bs : List (List Record)). bs ++ (r ∷ rs) ∷ []) same)
    asked answered.Behind same tells level = all_told before level (tells ∙ same)
    asked answered.Declined same tells level = all_told before level (tells ∙ same)
    asked answered.Unknown same tells level = all_told before level (tells ∙ same)

    pub taken_after : (stand : Stand) (kept : Kept) → k.stand ≡ stand → AreTakenAt told stand (told k.chain) before
        → KeepsAt told answers stand k (r ∷ rs) kept k' → AreTakenAfter kept k' before (r ∷ rs)
    taken_after Level kept here same asks =
        subst (λ (w : Kept). AreTakenAfter w k' before (r ∷ rs)) (sym asks.becomes) (asked asks.answer same asks.tells asks.level)
    taken_after (Due due) kept here same (inl is) =
        subst (λ (w : Kept). AreTakenAfter w k' before (r ∷ rs)) (sym is.1)
        (subst (λ (q : JoinKeep C). AreTaken told q (before ++ (r ∷ rs) ∷ [])) (sym is.2)
        (same ∙ ap (λ (b : List Record). before ++ b ∷ []) (sym is.0)))
    taken_after (Due due) kept here same (inr other) =
        subst (λ (w : Kept). AreTakenAfter w k' before (r ∷ rs)) (sym other.1)
        (subst (λ (q : JoinKeep C). AreTaken told q before) (sym other.2) (due ∷ [], sym same))
    taken_after Stopped kept here same still =
        subst (λ (w : Kept). AreTakenAfter w k' before (r ∷ rs)) (sym still.0)
        (subst (λ (q : JoinKeep C). AreTaken told q before) (sym still.1)
        (subst (λ (s : Stand). AreTakenAt told s (told k.chain) before) (sym here) same))
