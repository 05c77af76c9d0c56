use Rattle.reg_records.proofs.ReadsBack.{read-compact_text}
use Rattle.reg_records.proofs.members.compact_texts_read_back.Goals as goal

pub returns : goal.returns
returns c = read-compact_text
