use Rattle.avro_data.proofs.Samples.{single}
use Rattle.avro_data.proofs.laws.samples_are_single.Goals as goal

pub returns : goal.returns
returns c = single
