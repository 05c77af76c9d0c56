use Rattle.avro_schema.proofs.NormalMeaning.{normal_means_same}
use Rattle.avro_schema.proofs.laws.normal_texts_read_back.Goals as goal

pub returns : goal.returns
returns c = normal_means_same c.compact_texts_are_no_longer.ensures
