use Rattle.std.proofs.Common.{◌≡◌, Some, None, slice_get, refl, sym, ap, subst, ◌∙◌, rules}
use Rattle.reg_alike.specs.reg_set.LastRecords.{last_records}
use Rattle.reg_alike.specs.reg_floored.Floored.{Floored}
use Rattle.reg_alike.specs.reg_lookup.Answers.{IsAnswer, IsAnswerOver}
use Rattle.reg_world.specs.State.{set_at}
use Rattle.reg_world.specs.declared.event.Event.TheVariants as events
use Rattle.reg_world.specs.declared.event.Outcome.TheVariants as outcomes
use Rattle.reg_world.proofs.Steps.{a_node, allowed, no_node, not_allowed, set_there}
use Rattle.reg_world.proofs.cluster.Cluster.lookup.Goals as goal

pub returns-in_default-clause-happens : goal.returns-in_default-clause-happens
returns-in_default-clause-happens c =
    let s = c.args.self.now in
    let none : slice_get s.nodes c.args.node ≡ None = search rules in
    not_allowed s s (events.Lookup c.args.node c.args.query.now) (no_node s c.args.node none) refl

pub returns-clause-happens : goal.returns-clause-happens
returns-clause-happens c =
    let s = c.args.self.now in
    let found = c.in-Some.found.now in
    let a = c.in_ok-answer.field-0 in
    let there : slice_get s.nodes c.args.node ≡ Some found = search rules in
    let gives = set_there s c.args.node found there in
    let lasts = c.in_ok-registry.ensures.lasts ∙ ap last_records (c.set.ensures ∙ ap (λ (x : Floored). x.records) (sym gives)) in
    let is : IsAnswerOver (set_at s c.args.node).records c.args.query.now a =
    subst (λ rs. IsAnswer rs c.args.query.now a) lasts c.in_ok-answer.ensures.answered in
    allowed s _ (events.Lookup c.args.node c.args.query.now) (outcomes.Answered a)
    (a_node s c.args.node found there) refl (a, is, refl, refl)
