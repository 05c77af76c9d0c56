use Rattle.reg_records.proofs.Lines.{parts_at_line_feed}
use Rattle.reg_records.proofs.line.line_len.Goals as goal

pub returns-clause-parts : goal.returns-clause-parts
returns-clause-parts c = parts_at_line_feed c.args.bytes.now c.first_line_feed.result c.first_line_feed.ensures
