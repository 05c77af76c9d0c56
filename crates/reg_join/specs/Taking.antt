-- What comes of taking in what was told next.
use Rattle.std.specs.Prelude.{◌≡◌, ◌≢◌, ⊤, ◌⊎◌, List, [], ◌∷◌, ◌++◌}
use mathlib.Core.List.{IsPrefix}
use Rattle.reg_records.specs.declared.record.Record.{Record}
use Rattle.reg_leader.specs.declared.command.Command.{Command}
use Rattle.reg_topic.specs.Topic.{IsLawful, MayCommit, after_items}
use Rattle.reg_topic.specs.declared.published.Item.{Item}
use Rattle.reg_topic.specs.declared.topic.Topic.{Topic}
use Rattle.reg_pen.specs.Pen.{PenState}
use Rattle.reg_join.specs.Joined.{IsJoined, batches_in, batches_of}
use Rattle.reg_join.specs.Joining.{IsNotAsked}
use Rattle.reg_join.specs.declared.join_keep.JoinKeep.{JoinKeep}
use Rattle.reg_join.specs.declared.join_keep.Stand.TheVariants.{Level, Due, Stopped}
use Rattle.reg_join.specs.declared.taking.Next.{Next}
use Rattle.reg_join.specs.declared.taking.Next.TheVariants as nexts
use Rattle.reg_join.specs.declared.taking.TakenIn.{TakenIn}
use Rattle.reg_join.specs.declared.taking.TakenIn.TheVariants as takens

-- a pen goes on without a batch of its own: it stays joined, its list only grows, and the chain isn't asked for one
pub record GoesOn {C : Type 0} (told : C → List (List Record)) (l m : PenState (JoinKeep C)) : Type 0 where
  pub joined : IsJoined told l → IsJoined told m
  pub grows : IsPrefix l.published m.published
  pub own : IsNotAsked l.keep m.keep

-- one batch more is there, and none is due; or the batches are the same, and all that was told is taken, with nothing pending, or nothing
-- is any more
abbrev pub Takes : {C : Type 0} → TakenIn → PenState (JoinKeep C) → PenState (JoinKeep C) → Type 0
Takes takens.Batch l m = (due : List Record) × (m.keep.stand ≡ Level) × (batches_of m ≡ batches_of l ++ due ∷ [])
Takes takens.All l m = (m.keep.stand ≡ Level) × (m.pending ≡ []) × (batches_of m ≡ batches_of l)
Takes takens.Stopped l m = (m.keep.stand ≡ Stopped) × (batches_of m ≡ batches_of l)

-- the batch that was taken is the one that the chain told right behind those before; or it told nothing behind them; or what it told there,
-- if anything, isn't taken
abbrev pub TellsTaken : {C : Type 0} → (C → List (List Record)) → TakenIn → PenState (JoinKeep C) → PenState (JoinKeep C) → Type 0
TellsTaken told takens.Batch l m =
    (due : List Record) × (told m.keep.chain ≡ batches_of l ++ due ∷ []) × (batches_of m ≡ batches_of l ++ due ∷ [])
TellsTaken told takens.All l m = told m.keep.chain ≡ batches_of l
TellsTaken told takens.Stopped l m = IsPrefix (batches_of l) (told m.keep.chain)

-- no command writes the batch behind these items
abbrev pub IsNobodys : Topic → List Item → List Record → Type 0
IsNobodys base is batch = (c : Command) → MayCommit (after_items base is) (record { command = c; batch = batch }) → ⊥

-- where the keep is stopped, the chain told a batch right behind the pen's that no command writes there
abbrev pub StopsAtNobodys : {C : Type 0} → (C → List (List Record)) → Topic → PenState (JoinKeep C) → Type 0
StopsAtNobodys told base l = l.keep.stand ≡ Stopped
    → (due : List Record) × (told l.keep.chain ≡ batches_of l ++ due ∷ []) × IsNobodys base (l.published ++ l.pending) due

-- a lawful log stops nobody: where the chain told a beginning of its batches, the keep isn't stopped
abbrev pub LawfulLogsStopNobody : {C : Type 0} → (C → List (List Record)) → Type 0
LawfulLogsStopNobody {C = C} told = (base : Topic) (log : List Item) (l : PenState (JoinKeep C)) → IsLawful base log
    → IsPrefix (told l.keep.chain) (batches_in log) → StopsAtNobodys told base l → l.keep.stand ≢ Stopped

-- private: where any command writes the batch behind these items, this one does
abbrev pub IsCandidate : Topic → List Item → Command → List Record → Type 0
IsCandidate base is command batch = (c : Command) → MayCommit (after_items base is) (record { command = c; batch = batch })
    → MayCommit (after_items base is) (record { command = command; batch = batch })

-- private: what was told next: nothing; or a batch that this command writes if any does; or one that none writes, unless nothing is taken
-- any more
abbrev pub Tells : {C : Type 0} → Topic → Next → PenState (JoinKeep C) → Type 0
Tells base nexts.Nothing l = l.keep.stand ≡ Level
Tells base (nexts.Command command) l =
    (due : List Record) × (l.keep.stand ≡ Due due) × IsCandidate base (l.published ++ l.pending) command due
Tells base nexts.NoCommand l =
    (l.keep.stand ≡ Stopped) ⊎ ((due : List Record) × (l.keep.stand ≡ Due due) × IsNobodys base (l.published ++ l.pending) due)

-- private: all that was told is taken and nothing is pending, or nothing is taken any more, or more may be there
abbrev pub IsAtEnd : {C : Type 0} → TakenIn → PenState (JoinKeep C) → Type 0
IsAtEnd takens.Batch m = ⊤
IsAtEnd takens.All m = (m.keep.stand ≡ Level) × (m.pending ≡ [])
IsAtEnd takens.Stopped m = m.keep.stand ≡ Stopped
