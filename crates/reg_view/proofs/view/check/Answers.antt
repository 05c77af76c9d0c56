use Rattle.std.proofs.Common.{List, ℕ, ap, subst, ◌∙◌}
use Rattle.std.proofs.lemmas.Result.{IfOk-weaker}
use Rattle.reg_set.specs.LastRecords.{last_records}
use Rattle.reg_lookup.specs.Answers.{IsAnswer}
use Rattle.reg_lookup.specs.Checked.{checked_on}
use Rattle.reg_lookup.specs.declared.query.Query.TheVariants.{Check}
use Rattle.reg_view.proofs.view.check.Goals as goal

pub returns-clause-answered : goal.returns-clause-answered
returns-clause-answered g c =
    let rs = last_records (g.V.ShowsRegistry.comes_to g.N.FeedName.first c.copy_grounds.new.reader) in
    IfOk-weaker c.answer.result _ _ (λ a all.
    subst (λ (t : List ℕ). IsAnswer rs (Check c.args.subject.now c.args.which t c.args.verbose) a) c.as_str-2.ensures
    (all rs c.args.subject.now c.args.which (c.in_ok-grounds.ensures.grounds ∙ ap (λ s. checked_on rs s c.args.which) c.as_str.ensures)))
    c.answer.ensures
