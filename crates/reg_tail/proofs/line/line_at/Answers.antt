use Rattle.std.proofs.Common.{◌≡◌, ◌<◌, ◌==◌, [], Some, Ok, Err, false, length, take, arith, sym, subst, ◌∙◌}
use Rattle.std.specs.Prelude.{position}
use Rattle.std.proofs.lemmas.Bool.Decides.{nat_tests}
use Rattle.reg_records.specs.Line.{is_line_feed, reading_at_front}
use Rattle.reg_records.specs.declared.line.LineError.{LineError}
use Rattle.reg_tail.specs.Line.{IsPieceRefusal}
use Rattle.reg_records.specs.declared.log.LogFault.TheVariants as logs
use Rattle.reg_tail.specs.declared.error.TailError.TheVariants as tails
use Rattle.reg_tail.proofs.Lines.{cut_at, faulty, no_line_feed, nothing, read_front, some_before, truncated}
use Rattle.reg_tail.proofs.line.line_at.Goals as goal

pub returns-then-is_empty-clause-refused : goal.returns-then-is_empty-clause-refused
returns-then-is_empty-clause-refused c =
    record {
      lines = [];
      read = [];
      parts = nothing c.args.text.now (sym c.is_empty.ensures ∙ c.if-is_empty.true);
      say = tt;
      few = omega (arith, c.requires);
    }

pub returns-in_default-clause-refused : goal.returns-in_default-clause-refused
returns-in_default-clause-refused c =
    let text = c.args.text.now in
    let n = c.args.number in
    let empty : (length text == 0) ≡ false = sym c.is_empty.ensures ∙ c.if-is_empty.false in
    let some : 0 < length text = grind (arith, nat_tests) in
    let free = no_line_feed text (sym c.line_len.ensures.place ∙ c.in_default.is) in
    subst (λ e. IsPieceRefusal n text e) (sym c.fault_at-in_default.ensures)
    (truncated n text some (omega (arith, c.if-number-gt-LOG_LINES.false)) free)

pub returns-in-Ok-clause-line : goal.returns-in-Ok-clause-line
returns-in-Ok-clause-line c =
    let text = c.args.text.now in
    let end = c.in-Some.end in
    let at : position is_line_feed text ≡ Some end = sym c.line_len.ensures.place ∙ c.in-Some.is in
    let cut = cut_at text end at in
    record {
      line = take end text;
      behind = cut.behind;
      parts = cut.is;
      some = omega (arith, cut.size, some_before text end at c.if-text-eq10.false);
      free = cut.free;
      says = read_front text end (Ok c.in-Ok.read) at c.in-Ok.ensures.«record»;
      size = omega (arith, cut.size);
      within = omega (arith, c.if-number-gt-LOG_LINES.false);
    }

pub returns-in-Err-Line-clause-refused : goal.returns-in-Err-Line-clause-refused
returns-in-Err-Line-clause-refused c =
    let text = c.args.text.now in
    let n = c.args.number in
    let end = c.in-Some.end in
    let at : position is_line_feed text ≡ Some end = sym c.line_len.ensures.place ∙ c.in-Some.is in
    let cut = cut_at text end at in
    let fault : LineError = c.in-Err-Line.fault in
    let says : reading_at_front text ≡ Err fault = rw c.in-Err-Line.field-0-is at c.in-Err-Line.ensures.fault in
    let some : 0 < length (take end text) = omega (arith, cut.size, some_before text end at c.if-text-eq10.false) in
    subst (λ e. IsPieceRefusal n text e) (sym c.fault_at-in-Err-Line.ensures)
    (subst (λ t. IsPieceRefusal n t (tails.Line n (logs.Line fault))) (sym cut.is)
    (faulty n (take end text) cut.behind fault some
    (omega (arith, c.if-number-gt-LOG_LINES.false)) cut.free (read_front text end (Err fault) at says)))
