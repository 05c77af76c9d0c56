use Rattle.std.proofs.Common.{Ok, ap, sym, ◌∙◌}
use Rattle.reg_records.proofs.TextLines.{front, refused-end, refused-line, refused-lost, refused-unended}
use Rattle.reg_records.proofs.text_line.read_text_line.Goals as goal

pub returns-in_default-clause-refused : goal.returns-in_default-clause-refused
returns-in_default-clause-refused g c =
    let left = rw c.in_default.is at c.in_ok-next.ensures.taken in
    refused-lost c.args.reader.now c.take_line.new.reader _ _ left

pub returns-in-End-clause-refused : goal.returns-in-End-clause-refused
returns-in-End-clause-refused g c =
    let (end, kept) = rw (c.in-Some.is, c.in-End.is) at c.in_ok-next.ensures.taken in
    let same = rw c.in-Some.is at c.in_ok-next.ensures.faults in
    refused-end c.args.reader.now c.take_line.new.reader _ _ same end kept

pub returns-in-Unended-clause-refused : goal.returns-in-Unended-clause-refused
returns-in-Unended-clause-refused g c =
    let (line, none, some, read, end) = rw (c.in-Some.is, c.in-Unended.is) at c.in_ok-next.ensures.taken in
    let same = rw c.in-Some.is at c.in_ok-next.ensures.faults in
    refused-unended c.args.reader.now c.take_line.new.reader _ _ line same none read end

pub returns-in_ok-of_string-in-Ok-clause-text : goal.returns-in_ok-of_string-in-Ok-clause-text
returns-in_ok-of_string-in-Ok-clause-text g c =
    let (line, none, read, held) = rw (c.in-Some.is, c.in-Line.is) at c.in_ok-next.ensures.taken in
    front _ _ line (Ok c.in_ok-of_string-in-Ok.field-0) none read.0
    (c.in-Ok.ensures line held ∙ ap Ok (sym c.in_ok-of_string-in-Ok.ensures))

pub returns-in-Err-clause-refused : goal.returns-in-Err-clause-refused
returns-in-Err-clause-refused g c =
    let (line, none, read, held) = rw (c.in-Some.is, c.in-Line.is) at c.in_ok-next.ensures.taken in
    let same = rw c.in-Some.is at c.in_ok-next.ensures.faults in
    refused-line c.args.reader.now c.take_line.new.reader _ _ line c.in-Err.fault same none read.0 (c.in-Err.ensures line held)
