use Rattle.std.proofs.Common.{subst, string_bytes}
use Rattle.reg_responses.specs.Writing.{Writes}
use Rattle.reg_responses.proofs.Written.{HasWritten-begun}
use Rattle.reg_program.specs.Waiting.{IsPut}
use Rattle.reg_program.proofs.Waited.{put_written}
use Rattle.reg_program.proofs.text_writing.write_text.Goals as goal

pub returns : goal.returns
returns g c =
    let contents = g.W.Write.contents in
    let old = c.args.writer.now in
    let begun = c.begin_count.new.self in
    let mid = c.write_pieces.new.writer in
    let new = c.write_whole.new.writer in
    let waiting = string_bytes c.write_pieces.new.waiting in
    let begins = HasWritten-begun contents old begun c.begin_count.ensures.inner c.begin_count.ensures.faults
    c.begin_count.ensures.interruptions c.begin_count.ensures.all_interruptions in
    put_written contents old begun mid new c.args.text.now waiting c.write_whole.result begins
    (subst (λ before. IsPut contents begun mid before waiting c.args.text.now) c.new-waiting.ensures.bytes
    (subst (IsPut contents begun mid (string_bytes c.new-waiting.result) waiting) c.as_slice.ensures c.in_ok-write_pieces.ensures))
    (subst (λ b. Writes contents mid new b c.write_whole.result) c.as_bytes.ensures.value c.write_whole.ensures.written)
