-- A pen that is opened over a chain which has told nothing.
use Rattle.std.proofs.Common.{◌≡◌, ◌∙◌, List, [], ◌∷◌, None, false, ap, refl, subst, sym}
use Rattle.reg_records.specs.declared.record.Record.{Record}
use Rattle.reg_pen.specs.Opening.{KeepsDue}
use Rattle.reg_pen.specs.Pen.{PenState}
use Rattle.reg_pen.specs.declared.keep.Kept.TheVariants.{Taken}
use Rattle.reg_chain.specs.declared.chain.ChainAnswer.{ChainAnswer}
use Rattle.reg_chain.specs.declared.chain.ChainAnswer.TheVariants as answered
use Rattle.reg_join.specs.Joined.{IsJoined}
use Rattle.reg_join.specs.Joining.{Asks, JoinKeeps, kept_after, kept_of}
use Rattle.reg_join.specs.declared.join_keep.JoinKeep.{JoinKeep}
use Rattle.reg_join.specs.declared.join_keep.Stand.TheVariants.{Level}

-- a batch that was taken is counted
taken_is_counted : (answer : ChainAnswer) → Taken ≡ kept_of answer → 0 ≡ kept_after 0 answer → ⊥
taken_is_counted answered.Kept taken counted = absurd (cc)
taken_is_counted answered.Behind taken counted = absurd (cc)
taken_is_counted answered.Declined taken counted = absurd (cc)
taken_is_counted answered.Unknown taken counted = absurd (cc)

module _ {C : Type 0} (told : C → List (List Record)) where
  abbrev pub keep_over : C → JoinKeep C
  keep_over chain = record { chain = chain; stand = Level; last = None; kept = 0 }

  abbrev pub pen_over : JoinKeep C → PenState (JoinKeep C)
  pen_over keep = record { published = []; pending = []; lost = false; keep = keep }

  module _ (answers : C → List Record → ChainAnswer → C → Type 0) where
    -- where no batch is counted, the keep is as it was
    unasked_is_same : (chain : C) (due : List Record) (new : JoinKeep C) → KeepsDue (JoinKeeps told answers) (keep_over chain) due new
        → new.kept ≡ 0 → new ≡ keep_over chain
    unasked_is_same chain [] new same none = same
    unasked_is_same chain (r ∷ rs) new asks none =
        let asked : Asks told answers (keep_over chain) (r ∷ rs) Taken new = asks in
        absurd (taken_is_counted asked.answer asked.becomes (sym none ∙ asked.counts))

    -- its batches are then those that the chain told
    pub opened_joined : (chain : C) (due : List Record) (keep : JoinKeep C) (pen : PenState (JoinKeep C)) → told chain ≡ []
        → keep ≡ keep_over chain → pen ≡ pen_over pen.keep → KeepsDue (JoinKeeps told answers) keep due pen.keep → pen.keep.kept ≡ 0
        → IsJoined told pen
    opened_joined chain due keep pen none is begun kept unasked =
        let same = unasked_is_same chain due pen.keep (subst (λ k. KeepsDue (JoinKeeps told answers) k due pen.keep) is kept) unasked in
        let e : pen ≡ pen_over (keep_over chain) = begun ∙ ap pen_over same in
        subst (λ (p : PenState (JoinKeep C)). IsJoined told p) (sym e) (record { kept = refl; taken = none })
