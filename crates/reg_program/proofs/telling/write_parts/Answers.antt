use Rattle.std.proofs.Common.{arith}
use Rattle.std.proofs.lemmas.List.{take_more}
use Rattle.std.proofs.lemmas.Result.{err_from_is_err_and}
use Rattle.reg_responses.proofs.Written.{HasFront-then, flat_map-split}
use Rattle.reg_program.specs.Telling.{part_text}
use Rattle.reg_program.proofs.telling.write_parts.Goals as goal

pub returns-in_err-write_part : goal.returns-in_err-write_part
returns-in_err-write_part g c =
    let all = c.args.parts.now in
    let i = c.loop-part.part-index in
    let p = err_from_is_err_and c.from_residual.result c.from_residual.ensures.1 in
    rw p.1 (
    HasFront-then g.E.Write.contents c.args.errors.now c.loop-part.errors c.write_part.new.errors _ _ _ _
    (flat_map-split part_text all i _ (take_more all i _ (omega arith))) c.loop-part.invariant c.in_err-write_part.ensures)
