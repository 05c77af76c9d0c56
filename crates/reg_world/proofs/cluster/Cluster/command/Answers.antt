use Rattle.std.proofs.Common.{◌≡◌, inl, inr, Some, None, slice_get, sym, ap, ◌∙◌, rules, refl}
use Rattle.std.proofs.lemmas.Bool.{false≢true}
use Rattle.reg_world.specs.declared.event.Event.TheVariants as events
use Rattle.reg_world.specs.declared.event.Outcome.TheVariants as outcomes
use Rattle.reg_world.proofs.Steps.{a_node, allowed, no_node, not_allowed}
use Rattle.reg_world.proofs.cluster.Cluster.command.Goals as goal

pub returns-in_default-clause-happens : goal.returns-in_default-clause-happens
returns-in_default-clause-happens c =
    let s = c.args.self.now in
    let none : slice_get s.nodes c.args.node ≡ None = search rules in
    not_allowed s s (events.Command c.args.node c.args.command.now c.args.fate) (no_node s c.args.node none) refl

pub returns-clause-happens : goal.returns-clause-happens
returns-clause-happens c =
    let s = c.args.self.now in
    let there : slice_get s.nodes c.args.node ≡ Some c.in-Some._found.now = search rules in
    let d = c.decision-decision.result in
    elim c.decision-decision.ensures [
      | inl memory ↦ absurd (false≢true (sym c.if-is_no_memory.false ∙ c.is_no_memory.ensures.1 memory.0))
      | inr step ↦ allowed s _ (events.Command c.args.node c.args.command.now c.args.fate)
          (outcomes.Replied c.in_ok-reply.reply) (a_node s c.args.node _ there) refl (record {
            reply = d.reply;
            batch = d.batch;
            step = step;
            outcome = ap outcomes.Replied c.in_ok-reply.ensures.told;
            state = c.in_ok-reply.ensures.state;
          })
    ]
