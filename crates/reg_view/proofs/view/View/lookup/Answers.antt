use Rattle.std.proofs.lemmas.Result.{IfOk-weaker}
use Rattle.reg_set.specs.LastRecords.{last_records}
use Rattle.reg_view.proofs.view.View.lookup.Goals as goal

pub returns-clause-answers_for : goal.returns-clause-answers_for
returns-clause-answers_for g c =
    let first = g.N.FeedName.first in
    let list = c.look_or_check.new.reader in
    IfOk-weaker c.look_or_check.result _ _ (λ a is.
    (c.alike_answers_alike.ensures (last_records (g.V.ShowsRegistry.comes_to first list)) (g.V.ShowsRegistry.answers_for first list)
    (c.folds_show.ensures.alike first list c.self.invariant) c.args.query.now a).0 is) c.look_or_check.ensures.answered
