use Rattle.std.proofs.Common.{arith}
use Rattle.reg_connection.proofs.Sent.{range-more, range-none}
use Rattle.reg_connection.proofs.sending.send_some.Goals as goal

pub pieces-init : goal.pieces-init
pieces-init g c = record {
  onwards = omega arith;
  fits = λ h. h;
  taken = range-none g.S.Stream.took c.args.stream.now c.args.bytes.now c.args.sent.now;
}

pub pieces-preserved : goal.pieces-preserved
pieces-preserved g c = record {
  onwards = omega (arith, c.pieces.invariant.onwards, c.send_once.ensures.onwards);
  fits = λ h. c.send_once.ensures.fits;
  taken = range-more g.S.Stream.took c.args.stream.now c.pieces.stream c.send_once.new.stream c.args.bytes.now
      c.args.sent.now c.pieces.sent c.send_once.new.sent c.pieces.invariant.onwards c.send_once.ensures.onwards
      c.pieces.invariant.taken c.send_once.ensures.taken;
}

pub returns-in-Ok-Waits-clause-taken : goal.returns-in-Ok-Waits-clause-taken
returns-in-Ok-Waits-clause-taken g c =
    range-more g.S.Stream.took c.args.stream.now c.pieces.stream c.send_once.new.stream c.args.bytes.now
    c.args.sent.now c.pieces.sent c.send_once.new.sent c.pieces.invariant.onwards c.send_once.ensures.onwards
    c.pieces.invariant.taken c.send_once.ensures.taken

pub returns-in-Err-clause-taken : goal.returns-in-Err-clause-taken
returns-in-Err-clause-taken g c =
    range-more g.S.Stream.took c.args.stream.now c.pieces.stream c.send_once.new.stream c.args.bytes.now
    c.args.sent.now c.pieces.sent c.send_once.new.sent c.pieces.invariant.onwards c.send_once.ensures.onwards
    c.pieces.invariant.taken c.send_once.ensures.taken
