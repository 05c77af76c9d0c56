use Rattle.avro_schema.proofs.Sound.{sound_text}
use Rattle.avro_schema.proofs.laws.schemas_are_sound.Goals as goal

pub returns : goal.returns
returns c = sound_text
