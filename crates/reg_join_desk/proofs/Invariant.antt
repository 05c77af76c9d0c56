-- A joined pen stays one.
use Rattle.std.proofs.Common.{◌≡◌, List, subst, sym}
use Rattle.reg_records.specs.declared.record.Record.{Record}
use Rattle.reg_topic.specs.declared.topic.Topic.{Topic}
use Rattle.reg_pen.specs.Pen.{PenState}
use Rattle.reg_join.specs.Joined.{IsJoined}
use Rattle.reg_join.specs.Taking.{StopsAtNobodys}
use Rattle.reg_join.specs.declared.join_keep.JoinKeep.{JoinKeep}

module _ {C : Type 0} (told : C → List (List Record)) (base : Topic) where
  -- what its invariant says
  abbrev pub Stands : PenState (JoinKeep C) → Type 0
  Stands l = IsJoined told l × StopsAtNobodys told base l

  pub stands_still : (inside lent new : PenState (JoinKeep C)) → lent ≡ inside → new ≡ lent → Stands inside → Stands new
  stands_still inside lent new same still stands =
      subst (λ (l : PenState (JoinKeep C)). Stands l) (sym still) (subst (λ (l : PenState (JoinKeep C)). Stands l) (sym same) stands)

  pub stands_on : (inside lent new : PenState (JoinKeep C)) → lent ≡ inside → (IsJoined told lent → IsJoined told new)
      → (IsJoined told lent → StopsAtNobodys told base lent → StopsAtNobodys told base new) → Stands inside → Stands new
  stands_on inside lent new same joined stops stands =
      let here : Stands lent = subst (λ (l : PenState (JoinKeep C)). Stands l) (sym same) stands in
      (joined here.0, stops here.0 here.1)
