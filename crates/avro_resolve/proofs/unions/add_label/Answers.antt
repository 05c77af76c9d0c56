use Rattle.std.proofs.Common.{rules}
use Rattle.avro_resolve.proofs.Indexed.{free_label, label_new, label_old}
use Rattle.avro_resolve.proofs.unions.add_label.Goals as goal

pub returns-in_ok-insert : goal.returns-in_ok-insert
returns-in_ok-insert c =
    label_new c.args.branch c.args.labelled.now c.insert.new.self c.args.label (
    free_label c.args.labelled.now c.args.label c.contains_key.result c.contains_key.ensures
    (search rules)) c.in_ok-insert.ensures.updates.0

pub returns-else-not-contains_key : goal.returns-else-not-contains_key
returns-else-not-contains_key c = label_old c.args.branch c.args.labelled.now c.args.label (search rules)
