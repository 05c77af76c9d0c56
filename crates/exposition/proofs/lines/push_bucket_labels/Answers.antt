use Rattle.std.proofs.Common.{rules}
use Rattle.std.proofs.lemmas.List.{append_assoc}
use Rattle.std.proofs.lemmas.Result.{IfOk-equal}
use Rattle.exposition.specs.Bounds.{bound_text}
use Rattle.exposition.proofs.Labels.{bucket_labels_text}
use Rattle.exposition.proofs.lines.push_bucket_labels.Goals as goal

pub returns : goal.returns
returns c = rw (bucket_labels_text c.args.labels.now (bound_text c.args.bound)) (search (rules, IfOk-equal, append_assoc))
