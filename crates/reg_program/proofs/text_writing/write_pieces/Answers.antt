use Rattle.std.proofs.Common.{◌≡◌, ◌+◌, ◌∷◌, ◌++◌, [], take, sym, ap, ◌∙◌, subst, refl, string_bytes, take_all, arith}
use Rattle.std.proofs.lemmas.List.{take_more}
use Rattle.std.proofs.lemmas.Result.{err_from_is_err_and}
use Rattle.avro_data.specs.Pieces.{pieces_text}
use Rattle.reg_responses.proofs.Written.{HasWritten-begun}
use Rattle.reg_program.specs.Waiting.{IsPut}
use Rattle.reg_program.proofs.Waited.{lost_in, pieces_more, put_more, put_nothing}
use Rattle.reg_program.proofs.text_writing.write_pieces.Goals as goal

pub loop-piece-init : goal.loop-piece-init
loop-piece-init g c =
    let writer = c.args.writer.now in
    put_nothing g.W.Write.contents writer writer (string_bytes c.args.waiting.now)
    (HasWritten-begun g.W.Write.contents writer writer refl refl c.requires refl)

pub loop-piece-preserved : goal.loop-piece-preserved
loop-piece-preserved g c =
    let all = c.args.pieces.now in
    let l = c.loop-piece in
    let i = l.piece-index in
    let x = c.piece-item.result in
    let next : take (i + 1) all ≡ take i all ++ x ∷ [] =
    take_more all i x (omega arith) ∙ ap (λ y. take i all ++ y ∷ []) (sym c.piece-item.is) in
    let waiting = string_bytes c.args.waiting.now in
    let after = string_bytes c.write_piece.new.waiting in
    subst (IsPut g.W.Write.contents c.args.writer.now c.write_piece.new.writer waiting after)
    (sym (pieces_more all i x next))
    (put_more g.W.Write.contents c.args.writer.now l.writer c.write_piece.new.writer _ _ waiting (string_bytes l.waiting) after
    l.invariant c.in_ok-write_piece.ensures)

pub returns-in_err-write_piece : goal.returns-in_err-write_piece
returns-in_err-write_piece g c =
    let all = c.args.pieces.now in
    let l = c.loop-piece in
    let i = l.piece-index in
    let x = c.piece-item.result in
    let next : take (i + 1) all ≡ take i all ++ x ∷ [] =
    take_more all i x (omega arith) ∙ ap (λ y. take i all ++ y ∷ []) (sym c.piece-item.is) in
    let p = err_from_is_err_and c.from_residual.result c.from_residual.ensures.1 in
    rw p.1 (
    lost_in g.W.Write.contents c.args.writer.now l.writer c.write_piece.new.writer (string_bytes c.args.waiting.now)
    (string_bytes l.waiting) all i x next l.invariant c.in_err-write_piece.ensures)

pub returns : goal.returns
returns g c =
    let all = c.args.pieces.now in
    let l = c.loop-piece in
    subst (λ ps.
    IsPut g.W.Write.contents c.args.writer.now l.writer (string_bytes c.args.waiting.now) (string_bytes l.waiting) (pieces_text ps))
    (take_all l.piece-index all c.loop-piece-test.false) l.invariant
