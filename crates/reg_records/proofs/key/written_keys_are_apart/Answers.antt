use Rattle.reg_records.proofs.ReadsBack.{written_key-apart}
use Rattle.reg_records.proofs.key.written_keys_are_apart.Goals as goal

pub returns : goal.returns
returns c = written_key-apart
