use Rattle.std.proofs.Common.{◌<◌, ◌≤◌, ap, subst, arith, length, List}
use mathlib.Core.List.{IsPrefix}
use Rattle.reg_feed.specs.declared.entry.FeedEntry.{FeedEntry}
use Rattle.reg_feed.specs.History.{shown_of}
use Rattle.reg_feed.proofs.Prefixes.{prefix_shorter}
use Rattle.reg_feed.proofs.Histories.{grows}
use Rattle.reg_feed.proofs.shown.Shown.begins.Goals as goal

pub returns-then-other-self : goal.returns-then-other-self
returns-then-other-self g c =
    let both = c.learn.new.self.log in
    let this : IsPrefix c.self.inside.reached.log both =
    subst (λ (l : List (FeedEntry g.row.T.Denot)). IsPrefix l both) (ap (λ s. s.log) c.again-both.ensures) c.learn.ensures.2 in
    let less : length (shown_of c.other.inside.reached.log) < length (shown_of c.self.inside.reached.log) =
    omega (arith, c.self.invariant.0, c.other.invariant.0) in
    rw (← c.other.view_is, ← c.self.view_is) (
      less,
      prefix_shorter (shown_of c.other.inside.reached.log) (shown_of c.self.inside.reached.log) (shown_of both)
          (grows c.other.inside.reached.log both c.learn.ensures.3).shown (grows c.self.inside.reached.log both this).shown (omega arith),
    )

pub returns : goal.returns
returns g c =
    let both = c.learn.new.self.log in
    let this : IsPrefix c.self.inside.reached.log both =
    subst (λ (l : List (FeedEntry g.row.T.Denot)). IsPrefix l both) (ap (λ s. s.log) c.again-both.ensures) c.learn.ensures.2 in
    let less : length (shown_of c.self.inside.reached.log) ≤ length (shown_of c.other.inside.reached.log) =
    omega (arith, c.self.invariant.0, c.other.invariant.0) in
    rw (← c.self.view_is, ← c.other.view_is)
    (prefix_shorter (shown_of c.self.inside.reached.log) (shown_of c.other.inside.reached.log) (shown_of both)
    (grows c.self.inside.reached.log both this).shown (grows c.other.inside.reached.log both c.learn.ensures.3).shown less)
