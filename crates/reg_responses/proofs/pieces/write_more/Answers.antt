use Rattle.std.proofs.Common.{arith}
use Rattle.std.proofs.lemmas.List.{take_more}
use Rattle.std.proofs.lemmas.Result.{err_from_is_err_and}
use Rattle.std.specs.Prelude.{◌∷◌, decimal}
use Rattle.reg_responses.proofs.Written.{HasFront-then, flat_map-split}
use Rattle.reg_responses.proofs.pieces.write_more.Goals as goal

pub returns-in_err-write_after_comma-clause-written : goal.returns-in_err-write_after_comma-clause-written
returns-in_err-write_after_comma-clause-written g c =
    let all = c.args.numbers.now in
    let i = c.loop-number.number-index in
    let p = err_from_is_err_and c.from_residual.result c.from_residual.ensures.1 in
    rw p.1 (
    HasFront-then g.W.Write.contents c.args.writer.now c.loop-number.writer c.write_after_comma.new.writer _ _ _ _
    (flat_map-split (λ n. 44 ∷ decimal n) all i _
    (take_more all i _ (omega arith))) c.loop-number.invariant c.in_err-write_after_comma.ensures.written)
