use Rattle.compact_length.proofs.Values.{compact_shorter}
use Rattle.compact_length.proofs.compact_texts_are_no_longer.Goals as goal

pub returns : goal.returns
returns c = compact_shorter
