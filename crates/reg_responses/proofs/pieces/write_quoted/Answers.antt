use Rattle.std.proofs.Common.{[], ◌∷◌, ◌++◌, refl}
use Rattle.std.proofs.lemmas.Result.{err_from_is_err_and}
use Rattle.json.specs.Print.{escape, quoted}
use Rattle.reg_responses.proofs.Written.{HasFront-more, HasFront-then, Writes-then}
use Rattle.reg_responses.proofs.pieces.write_quoted.Goals as goal

pub returns-in_err-write_bytes-clause-written : goal.returns-in_err-write_bytes-clause-written
returns-in_err-write_bytes-clause-written g c =
    let p = err_from_is_err_and c.from_residual.result c.from_residual.ensures.1 in
    rw p.1 (
    HasFront-more g.W.Write.contents c.args.writer.now c.write_bytes.new.writer (34 ∷ [])
    (escape c.args.bytes.now ++ 34 ∷ []) c.in_err-write_bytes.ensures.written)

pub returns-in_err-write_escaped-clause-written : goal.returns-in_err-write_escaped-clause-written
returns-in_err-write_escaped-clause-written g c =
    let bytes = c.args.bytes.now in
    let p = err_from_is_err_and c.from_residual-in_err-write_escaped.result c.from_residual-in_err-write_escaped.ensures.1 in
    rw p.1 (
    HasFront-then g.W.Write.contents c.args.writer.now c.write_bytes.new.writer c.write_escaped.new.writer (34 ∷ [])
    (escape bytes) (34 ∷ []) (quoted bytes) refl c.in_ok-write_bytes.ensures.written c.in_err-write_escaped.ensures.written)

pub returns-clause-written : goal.returns-clause-written
returns-clause-written g c =
    let bytes = c.args.bytes.now in
    Writes-then g.W.Write.contents c.args.writer.now c.write_bytes.new.writer c.write_bytes-2.new.writer
    (34 ∷ []) (escape bytes ++ 34 ∷ []) _ c.in_ok-write_bytes.ensures.written
    (Writes-then g.W.Write.contents c.write_bytes.new.writer c.write_escaped.new.writer c.write_bytes-2.new.writer
    (escape bytes) (34 ∷ []) _ c.in_ok-write_escaped.ensures.written c.write_bytes-2.ensures.written)
