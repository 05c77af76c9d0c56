use Rattle.avro_resolve.proofs.Verdicts.{one_verdict}
use Rattle.avro_resolve.proofs.laws.schemas_have_one_verdict.Goals as goal

pub returns : goal.returns
returns c = one_verdict
