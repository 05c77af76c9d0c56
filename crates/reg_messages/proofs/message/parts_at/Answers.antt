use Rattle.std.proofs.Common.{None, ap, arith, length, take, ◌≡◌}
use Rattle.reg_messages.proofs.FrontsRead.{front-head, front-refused, read-ok}
use Rattle.reg_messages.proofs.message.parts_at.Goals as goal

pub split_at-requires-in-Ok : goal.split_at-requires-in-Ok
split_at-requires-in-Ok c =
    let taken = take c.args.end c.args.bytes.now in
    let (fits, always, is) = read-ok taken c.args.start c.args.read c.in-Ok.read c.in-Ok.is c.requires.read in
    let same : length c.split_at.result.0.now ≡ length taken = ap length c.split_at.ensures.front in
    omega (arith, fits, same)

pub parts_of_head-requires : goal.parts_of_head-requires
parts_of_head-requires c =
    let taken = take c.args.end c.args.bytes.now in
    let (fits, always, is) = read-ok taken c.args.start c.args.read c.in-Ok.read c.in-Ok.is c.requires.read in
    record { said = rw (c.split_at-in-Ok.ensures.back, c.split_at.ensures.front) is }

pub returns-in-Ok : goal.returns-in-Ok
returns-in-Ok c =
    let taken = take c.args.end c.args.bytes.now in
    let read = read-ok taken c.args.start c.args.read c.in-Ok.read c.in-Ok.is c.requires.read in
    c.parts_of_head.ensures c.args.bytes.now
    (rw (c.split_at-in-Ok.ensures.back, c.split_at.ensures.front, c.split_at.ensures.back)
    (front-head c.args.bytes.now c.args.start c.args.end c.in-Ok.read read))

pub returns-in-Err : goal.returns-in-Err
returns-in-Err c =
    (None, front-refused c.args.bytes.now c.args.start c.args.end c.args.read c.in-Err.refusal c.in-Err.is c.requires.read)
