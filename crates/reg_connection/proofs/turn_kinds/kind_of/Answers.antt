use Rattle.std.proofs.Common.{sym}
use Rattle.reg_connection.proofs.NoTexts.{no-method}
use Rattle.reg_connection.proofs.turn_kinds.kind_of.Goals as goal

pub returns-in-Err : goal.returns-in-Err
returns-in-Err c = sym (no-method c.args.method.now c.in-Err.ensures.cases.0 c.args.target.now)
