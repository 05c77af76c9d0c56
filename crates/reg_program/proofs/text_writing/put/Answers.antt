use Rattle.std.proofs.Common.{rules, ◌≡◌, sym, subst, ◌∙◌, string_bytes}
use Rattle.std.proofs.lemmas.Result.{err_from_is_err_and}
use Rattle.reg_responses.specs.Writing.{HasFront, HasWritten, Writes}
use Rattle.reg_responses.proofs.Written.{HasFront-more}
use Rattle.reg_program.specs.Waiting.{Puts}
use Rattle.reg_program.proofs.Waited.{put_whole}
use Rattle.reg_program.proofs.text_writing.put.Goals as goal

pub returns-in_err-write_whole : goal.returns-in_err-write_whole
returns-in_err-write_whole g c =
    let waiting = string_bytes c.args.waiting.now in
    let kept : string_bytes c.has_joined.new.waiting ≡ waiting = search rules in
    let p = err_from_is_err_and c.from_residual.result c.from_residual.ensures.1 in
    rw p.1 (
    HasFront-more g.W.Write.contents c.args.writer.now c.write_whole.new.writer waiting c.args.text.now
    (subst (HasFront g.W.Write.contents c.args.writer.now c.write_whole.new.writer) (c.as_bytes.ensures.value ∙ kept)
    c.in_err-write_whole.ensures.written))

pub returns : goal.returns
returns g c =
    let contents = g.W.Write.contents in
    let old = c.args.writer.now in
    let mid = c.write_whole.new.writer in
    let new = c.write_whole-2.new.writer in
    let waiting = string_bytes c.args.waiting.now in
    let text = c.args.text.now in
    let kept : string_bytes c.has_joined.new.waiting ≡ waiting = search rules in
    subst (λ w. Puts contents old new waiting w text c.write_whole-2.result) (sym c.clear.ensures.bytes)
    (put_whole contents old mid new waiting text c.write_whole-2.result
    (subst (HasWritten contents old mid) (c.as_bytes.ensures.value ∙ kept) c.in_ok-write_whole.ensures.written)
    (subst (λ b. Writes contents mid new b c.write_whole-2.result) c.as_bytes-2.ensures.value c.write_whole-2.ensures.written))
