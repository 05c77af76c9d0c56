use Rattle.std.proofs.Common.{sym}
use Rattle.reg_connection.proofs.NoTexts.{no-path}
use Rattle.reg_connection.proofs.turn_kinds.kind_by.Goals as goal

pub returns-in-Err : goal.returns-in-Err
returns-in-Err c = sym (no-path c.args.method.now c.args.target.now c.in-Err.ensures.cases.0)
