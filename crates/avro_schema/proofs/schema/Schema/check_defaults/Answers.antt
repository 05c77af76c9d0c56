use Rattle.std.proofs.Common.{◌≡◌, [], Contains, subst, sym, ap, ◌∙◌, arith, drop, flat_map, ◌++◌, ◌+◌}
use Rattle.std.proofs.lemmas.List.Elements.{Contains-append_left}
use Rattle.avro_schema.specs.Defaults.{bad_defaults}
use Rattle.avro_schema.specs.Sound.{fields_of_node}
use Rattle.avro_schema.proofs.DefaultLemmas.{bad_in, no_fields_in, bad_left}
use Rattle.avro_schema.proofs.Lookups.{exit_err}
use Rattle.avro_schema.proofs.schema.Schema.check_defaults.Goals as goal
use Rattle.avro_schema.proofs.schema.Schema.check_defaults.Goals.{in-Record+in_ok-check_fields, in_default}

pub returns-in_err-check_fields-clause-bad : goal.returns-in_err-check_fields-clause-bad
returns-in_err-check_fields-clause-bad c =
    let nodes = c.nodes-nodes.result.now in
    let gs = c.as_slice.result.now in
    let rest = flat_map fields_of_node (drop (c.loop-node.node-index + 1) nodes) in
    let whole : bad_defaults nodes ≡ bad_in nodes gs ++ bad_in nodes rest =
    bad_left nodes c.loop-node.node-index c.node-item.result gs c.loop-node.invariant
    (omega arith) c.node-item.is (ap fields_of_node c.in-Record.is ∙ sym c.as_slice.ensures.items) in
    let e = c.in_err-check_fields.field-0.0 in
    exit_err c.from_residual.result (λ bad. Contains (bad_defaults c.args.self.now.nodes) bad.field.now) e c.from_residual.ensures.1
    (subst (λ (l : _). Contains (bad_defaults l) e.field.now) c.nodes-nodes.ensures
    (subst (λ l. Contains l e.field.now) (sym whole)
    (Contains-append_left (bad_in nodes gs) (bad_in nodes rest) e.field.now
    (subst (λ l. Contains (bad_in l gs) e.field.now) (sym c.nodes-nodes.ensures) c.in_err-check_fields.ensures.bad))))

pub loop-node-preserved : goal.loop-node-preserved
loop-node-preserved c =
    let nodes = c.nodes-nodes.result.now in
    let rest = flat_map fields_of_node (drop (c.loop-node.node-index + 1) nodes) in
    elim c.match-node.branch [
      | in-Record+in_ok-check_fields w ↦
          bad_left nodes c.loop-node.node-index c.node-item.result w.as_slice.result.now c.loop-node.invariant
          (omega arith) c.node-item.is (ap fields_of_node w.in-Record.is ∙ sym w.as_slice.ensures.items)
          ∙ ap (λ l. l ++ bad_in nodes rest)
          (ap (λ l. bad_in l w.as_slice.result.now) c.nodes-nodes.ensures ∙ w.in_ok-check_fields.ensures.ok)
      | in_default w ↦ bad_left nodes c.loop-node.node-index c.node-item.result [] c.loop-node.invariant
          (omega arith) c.node-item.is (no_fields_in c.node-item.result w.in_default.not-Record)
    ]
