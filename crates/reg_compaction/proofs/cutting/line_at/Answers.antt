use Rattle.std.proofs.Common.{◌≡◌, Ok, Err, Some, None, length, sym, ap, ◌∙◌}
use Rattle.std.specs.Prelude.{position}
use Rattle.reg_records.specs.Line.{is_line_feed, reading_at_front}
use Rattle.reg_compaction.proofs.Fronts.{ends_at, says}
use Rattle.reg_compaction.proofs.cutting.line_at.Goals as goal

pub returns-in_default-clause-line : goal.returns-in_default-clause-line
returns-in_default-clause-line c line more read is free reads =
    let at : None ≡ Some (length line) = c.in_default.ensures.place ∙ ap (position is_line_feed) is ∙ ends_at line more free in
    cc

pub returns-in-Ok-clause-line : goal.returns-in-Ok-clause-line
returns-in-Ok-clause-line c line more read is free reads =
    let at : Some c.in-Some.end ≡ Some (length line) = c.in-Some.ensures.place ∙ ap (position is_line_feed) is ∙ ends_at line more free in
    let said : Ok c.in-Ok.read ≡ Ok read = sym c.in-Ok.ensures.«record» ∙ ap reading_at_front is ∙ says line more read free reads in
    cc

pub returns-in-Err-Line-clause-line : goal.returns-in-Err-Line-clause-line
returns-in-Err-Line-clause-line c line more read is free reads =
    let said : Err c.in-Err-Line.field-0-0 ≡ Ok read =
    sym (rw c.in-Err-Line.field-0-is at c.in-Err-Line.ensures.fault) ∙ ap reading_at_front is ∙ says line more read free reads in
    cc
