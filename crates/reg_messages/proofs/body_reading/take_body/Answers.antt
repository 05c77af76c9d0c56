use Rattle.std.proofs.Common.{[], arith}
use Rattle.std.proofs.KnownBytes.{Consumes-nil}
use Rattle.reg_messages.proofs.body_reading.take_body.Goals as goal

pub returns-in-Err-clause-taken : goal.returns-in-Err-clause-taken
returns-in-Err-clause-taken g c =
    c.drop_body.ensures.taken (g.R.Read.remaining c.args.reader.now.inner) [] c.args.len
    (Consumes-nil (g.R.Read.remaining c.args.reader.now.inner)) (omega arith)

pub returns-in-Err-clause-short : goal.returns-in-Err-clause-short
returns-in-Err-clause-short g c =
    c.drop_body.ensures.short (g.R.Read.remaining c.args.reader.now.inner) [] c.args.len
    (Consumes-nil (g.R.Read.remaining c.args.reader.now.inner)) (omega arith)
