use Rattle.reg_messages.proofs.Fronts.{blank-short}
use Rattle.reg_messages.proofs.head.take_front.Goals as goal

pub returns-in-Ok-clause-taken : goal.returns-in-Ok-clause-taken
returns-in-Ok-clause-taken g c = c.take_after_blank.ensures.taken (g.R.Read.remaining c.args.reader.now.inner) c.in-Ok.ensures.taken

pub returns-in-Ok-clause-short : goal.returns-in-Ok-clause-short
returns-in-Ok-clause-short g c = c.take_after_blank.ensures.short (g.R.Read.remaining c.args.reader.now.inner) c.in-Ok.ensures.taken

pub returns-in-Err-clause-short : goal.returns-in-Err-clause-short
returns-in-Err-clause-short g c =
    blank-short (g.R.Read.remaining c.args.reader.now.inner) (g.R.Read.remaining c.take_blank.new.reader.inner) c.in-Err.ensures.lost.1
