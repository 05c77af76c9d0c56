use Rattle.std.proofs.Common.{◌<◌, arith}
use Rattle.reg_follow.proofs.Taking.{bytes_taken, same_following}
use Rattle.reg_follow.proofs.reading.take_piece.Goals as goal

pub returns-in-Ok-eq0-clause-taken : goal.returns-in-Ok-eq0-clause-taken
returns-in-Ok-eq0-clause-taken g c text read has =
    let it = c.in-Ok-eq0.ensures.given.none (omega arith) in
    let list = c.in-Ok-eq0.ensures.list in
    (it.0, it.1, same_following c.args.intake.now c.take_from.new.self it.2 list.0 list.1)

pub returns-in-Ok-clause-taken : goal.returns-in-Ok-clause-taken
returns-in-Ok-clause-taken g c text read has =
    let some : 0 < c.in-Ok._len = omega arith in
    let it = c.in-Ok.ensures.given.some some in
    let list = c.in-Ok.ensures.list in
    (it.0, it.2, bytes_taken text read c.args.intake.now c.take_from.new.self it.0 it.3 list.0 list.1 has)
