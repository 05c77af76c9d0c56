use Rattle.avro_resolve.proofs.Indexed.{all_labels}
use Rattle.avro_resolve.specs.Labels.{read_heading}
use Rattle.avro_resolve.proofs.unions.add_labels.Goals as goal

pub returns : goal.returns
returns c = λ q.
    all_labels c.args.branch c.args.labelled.now c.args.labelled.now c.add_label.new.labelled c.last_label.result q (
    c.in_ok-add_label.ensures q)
    (read_heading c.args.head) c.add_aliases.new.labelled c.last_label.ensures.shape
    c.last_label.ensures.name c.last_label.ensures.namespace (c.in_ok-add_aliases.ensures q)
