use Rattle.avro_resolve.proofs.Verdicts.{one_verdict}
use Rattle.avro_resolve.proofs.resolving.resolve.Goals as goal

pub returns-in_err-resolve_counted-clause-one_verdict :
    goal.returns-in_err-resolve_counted-clause-one_verdict
returns-in_err-resolve_counted-clause-one_verdict c = one_verdict c.args.r.now.nodes c.args.w.now.nodes

pub returns-clause-one_verdict : goal.returns-clause-one_verdict
returns-clause-one_verdict c = one_verdict c.args.r.now.nodes c.args.w.now.nodes
