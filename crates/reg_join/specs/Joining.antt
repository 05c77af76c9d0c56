-- What a keep over a chain does with a batch.
use Rattle.std.specs.Prelude.{◌≡◌, ◌≢◌, ◌⊎◌, ℕ, List, [], ◌∷◌, ◌++◌, Some}
use mathlib.Core.List.{IsPrefix}
use Rattle.reg_records.specs.declared.record.Record.{Record}
use Rattle.reg_pen.specs.Pen.{counted}
use Rattle.reg_pen.specs.declared.keep.Kept.{Kept}
use Rattle.reg_pen.specs.declared.keep.Kept.TheVariants.{Taken, Declined, Unknown}
use Rattle.reg_pen.specs.declared.keep.Lack.TheVariants as lacks
use Rattle.reg_chain.specs.Chain.{told_after}
use Rattle.reg_chain.specs.declared.chain.ChainAnswer.{ChainAnswer}
use Rattle.reg_chain.specs.declared.chain.ChainAnswer.TheVariants as answered
use Rattle.reg_join.specs.declared.join_keep.JoinKeep.{JoinKeep}
use Rattle.reg_join.specs.declared.join_keep.Stand.{Stand}
use Rattle.reg_join.specs.declared.join_keep.Stand.TheVariants.{Level, Due, Stopped}

-- what became of a batch, by the chain's answer
abbrev pub kept_of : ChainAnswer → Kept
kept_of answered.Kept = Taken
kept_of answered.Behind = Declined lacks.Overtaken
kept_of answered.Declined = Declined lacks.Store
kept_of answered.Unknown = Unknown

-- how many own batches the chain kept, after its answer to one more
abbrev pub kept_after : ℕ → ChainAnswer → ℕ
kept_after n answered.Kept = counted n
kept_after n answered.Behind = n
kept_after n answered.Declined = n
kept_after n answered.Unknown = n

-- the chain wasn't asked for a batch: its last answer to one, and how many it kept, are the same
pub record IsNotAsked {C : Type 0} (old new : JoinKeep C) : Type 0 where
  pub last : new.last ≡ old.last
  pub kept : new.kept ≡ old.kept

module _ {C : Type 0} (told : C → List (List Record)) where
  -- the batches that were taken: all that were told, but for the one that is due; where the keep is stopped, what was told goes on behind them
  abbrev pub AreTakenAt : Stand → List (List Record) → List (List Record) → Type 0
  AreTakenAt Level all taken = all ≡ taken
  AreTakenAt (Due batch) all taken = all ≡ taken ++ batch ∷ []
  AreTakenAt Stopped all taken = IsPrefix taken all

  abbrev pub AreTaken : JoinKeep C → List (List Record) → Type 0
  AreTaken keep taken = AreTakenAt keep.stand (told keep.chain) taken

  -- what was taken is the same
  abbrev pub KeepsTaken : JoinKeep C → JoinKeep C → Type 0
  KeepsTaken old new = (taken : List (List Record)) → AreTaken old taken → AreTaken new taken

  module _ (answers : C → List Record → ChainAnswer → C → Type 0) where
    -- the chain is asked for a batch
    pub record Asks (old : JoinKeep C) (batch : List Record) (kept : Kept) (new : JoinKeep C) : Type 0 where
      pub answer : ChainAnswer
      pub means : answers old.chain batch answer new.chain
      pub tells : told new.chain ≡ told_after (told old.chain) batch answer
      pub becomes : kept ≡ kept_of answer
      pub level : new.stand ≡ Level
      pub last : new.last ≡ Some answer
      pub counts : new.kept ≡ kept_after old.kept answer

    -- by how the keep stands: where all that was told is taken, the chain is asked; where a batch is due, exactly its records are taken, and
    -- any others stop the keep; a stopped one takes nothing
    abbrev pub KeepsAt : Stand → JoinKeep C → List Record → Kept → JoinKeep C → Type 0
    KeepsAt Level old batch kept new = Asks old batch kept new
    KeepsAt (Due due) old batch kept new =
        ((batch ≡ due) × (kept ≡ Taken) × (new ≡ record old { stand = Level }))
        ⊎ ((batch ≢ due) × (kept ≡ Declined lacks.Store) × (new ≡ record old { stand = Stopped }))
    KeepsAt Stopped old batch kept new = (kept ≡ Declined lacks.Store) × (new ≡ old)

    abbrev pub JoinKeeps : JoinKeep C → List Record → Kept → JoinKeep C → Type 0
    JoinKeeps old batch kept new = KeepsAt old.stand old batch kept new

    -- the chain is asked whether something stands behind all that was told
    pub record AsksNothing (old : JoinKeep C) (answer : ChainAnswer) (new : JoinKeep C) : Type 0 where
      pub means : answers old.chain [] answer new.chain
      pub tells : told new.chain ≡ told old.chain
      pub same : new ≡ record old { chain = new.chain }

    -- by how the keep stands: what is due stands behind what was taken, and a stopped keep asks nothing
    abbrev pub ChecksAt : Stand → JoinKeep C → ChainAnswer → JoinKeep C → Type 0
    ChecksAt Level old answer new = AsksNothing old answer new
    ChecksAt (Due due) old answer new = (answer ≡ answered.Behind) × (new ≡ old)
    ChecksAt Stopped old answer new = (answer ≡ answered.Declined) × (new ≡ old)

    abbrev pub Checks : JoinKeep C → ChainAnswer → JoinKeep C → Type 0
    Checks old answer new = ChecksAt old.stand old answer new
