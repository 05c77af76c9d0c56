use Rattle.std.proofs.Common.{rules, sym, ◌∙◌}
use Rattle.reg_tail.proofs.Fronts.{begins_floor, begins_plain, floor_faulty, floor_truncated}
use Rattle.reg_tail.proofs.front.front_of.Goals as goal

pub returns-then-not-is_floor_line-clause-front : goal.returns-then-not-is_floor_line-clause-front
returns-then-not-is_floor_line-clause-front c = begins_plain c.args.file.now (sym c.is_floor_line.ensures ∙ c.if-not-is_floor_line.true)

pub returns-in_default-clause-fault : goal.returns-in_default-clause-fault
returns-in_default-clause-fault c =
    floor_truncated c.args.file.now (sym c.is_floor_line.ensures ∙ c.if-not-is_floor_line.false) (sym c.line_len.ensures.place ∙ c.in_default.is)

pub returns-in_err-floor-clause-fault : goal.returns-in_err-floor-clause-fault
returns-in_err-floor-clause-fault c =
    let file = c.args.file.now in
    let bad = floor_faulty file c.in-Some.end (sym c.is_floor_line.ensures ∙ c.if-not-is_floor_line.false)
    (sym c.line_len.ensures.place ∙ c.in-Some.is) c.in_err-floor.field-0.0 (sym c.in_err-floor.ensures) in
    search (rules, bad)

pub returns-clause-front : goal.returns-clause-front
returns-clause-front c =
    let file = c.args.file.now in
    let end = c.in-Some.end in
    begins_floor file end (sym c.is_floor_line.ensures ∙ c.if-not-is_floor_line.false)
    (sym c.line_len.ensures.place ∙ c.in-Some.is) c.in_ok-floor.floor (sym c.in_ok-floor.ensures)
