use Rattle.avro_resolve.proofs.Verdicts.{compatible_by_obligations}
use Rattle.avro_resolve.proofs.laws.obligations_are_compatible.Goals as goal

pub returns : goal.returns
returns c = compatible_by_obligations
