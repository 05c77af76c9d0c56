use Rattle.std.proofs.Common.{ap, subst, sym, ◌∙◌, List}
use mathlib.Core.List.{IsPrefix}
use Rattle.reg_feed.specs.declared.entry.FeedEntry.{FeedEntry}
use Rattle.reg_feed.specs.History.{items_of, shown_of, offered_of}
use Rattle.reg_feed.proofs.Histories.{grows, fits, prefix_trans}
use Rattle.reg_feed.proofs.Rights.{prefix_same}
use Rattle.reg_feed.proofs.shown.Shown.is.Goals as goal

pub returns : goal.returns
returns g c =
    let both = c.learn.new.self.log in
    let this : IsPrefix c.self.inside.reached.log both =
    subst (λ (l : List (FeedEntry g.row.T.Denot)). IsPrefix l both) (ap (λ s. s.log) c.again-both.ensures) c.learn.ensures.2 in
    let within : IsPrefix (shown_of both) (items_of both) =
    prefix_trans (shown_of both) (offered_of both) (items_of both) (fits both).published (fits both).offer in
    rw (← c.self.view_is, ← c.front.view_is)
    (prefix_same (shown_of c.self.inside.reached.log) (items_of c.front.inside.reached.log) (items_of both)
    (prefix_trans (shown_of c.self.inside.reached.log) (shown_of both) (items_of both) (grows c.self.inside.reached.log both this).shown within)
    (grows c.front.inside.reached.log both c.learn.ensures.3).items
    (sym c.self.invariant.0 ∙ (sym c.if-front-self.false ∙ c.front.invariant.0)))
