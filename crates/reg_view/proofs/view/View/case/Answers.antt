use Rattle.reg_set.specs.LastRecords.{last_records}
use Rattle.reg_view.specs.Judging.{IsMatterOf}
use Rattle.reg_view.proofs.Alike.{matters_weaker}
use Rattle.reg_view.proofs.view.View.case.Goals as goal

pub returns-clause-answers_for : goal.returns-clause-answers_for
returns-clause-answers_for g c =
    let first = g.N.FeedName.first in
    let list = c.case_of.new.reader in
    let rs = last_records (g.V.ShowsRegistry.comes_to first list) in
    let ss = g.V.ShowsRegistry.answers_for first list in
    matters_weaker c.case_of.result (IsMatterOf rs c.args.command.now) (IsMatterOf ss c.args.command.now)
    (λ m is. (c.alike_judges_alike.ensures rs ss (c.folds_show.ensures.alike first list c.self.invariant) c.args.command.now).0 m is)
    c.case_of.ensures.case
