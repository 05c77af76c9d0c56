use Rattle.std.proofs.Common.{rules, ◌≡◌, fold, sym, ap, ◌∙◌}
use Rattle.reg_feed.proofs.reader.look_at.Goals as goal

pub returns-clause-seen : goal.returns-clause-seen
returns-clause-seen g c =
    let same : c.of.result ≡ c.stored-stored.result.now = c.of.ensures ∙ (c.again.ensures ∙ (c.if-not-is.ensures ∙ c.front.ensures)) in
    (c.value.result, search rules, c.value.ensures ∙ ap (fold g.V.Fold.applied g.N.FeedName.first) (sym same))
