use Rattle.std.proofs.Common.{◌≡◌, false, sym, ap, ◌∙◌, rules}
use Rattle.std.proofs.lemmas.Bool.{and_right}
use Rattle.std.specs.FinSet.{contains}
use Rattle.std.specs.List.{list_all}
use Rattle.reg_world.specs.State.{has_node, topic_of}
use Rattle.reg_world.specs.declared.event.Event.TheVariants as events
use Rattle.reg_world.proofs.Steps.{not_allowed}
use Rattle.reg_world.proofs.cluster.Cluster.take.Goals as goal

pub returns-then-not-are_kept-clause-happens : goal.returns-then-not-are_kept-clause-happens
returns-then-not-are_kept-clause-happens c =
    let s = c.args.self.now in
    let all : list_all (contains (topic_of s).kept.records) c.args.records.now ≡ c.in_ok-are_kept.are_kept =
    sym (c.in_ok-are_kept.ensures.told ∙ ap (list_all (contains (topic_of s).kept.records)) c.as_slice.ensures) in
    let no : c.in_ok-are_kept.are_kept ≡ false = search rules in
    not_allowed s _ (events.Take c.args.node c.args.records.now) (and_right (has_node s c.args.node) _ (all ∙ no)) c.are_kept.ensures.same
