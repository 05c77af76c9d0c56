use Rattle.std.proofs.Common.{◌&&◌, ℕ, List, Ok, Err, sym, ap, take, arith, ◌∙◌}
use Rattle.std.specs.Prelude.{nat_eq}
use Rattle.reg_records.specs.Floor.{is_floor_line}
use Rattle.reg_records.specs.Line.{reading_at_front}
use Rattle.reg_intake.proofs.Cuts.{front_reading, said_plain, without_end}
use Rattle.reg_intake.proofs.incoming.came_at.Goals as goal

pub returns-in-Ok-read_line-clause-came : goal.returns-in-Ok-read_line-clause-came
returns-in-Ok-read_line-clause-came c line is free =
    let same = ap (λ (n : ℕ). take n c.args.bytes.now) c.saturating_sub.ensures ∙ without_end line c.args.bytes.now is in
    said_plain c.args.before line (Ok c.in-Ok-read_line.read)
    (ap (λ (l : List ℕ). nat_eq c.args.before 0 && is_floor_line l) (sym same) ∙ sym c.says_floor.ensures ∙ c.if-says_floor.false)
    (sym (front_reading line free) ∙ ap reading_at_front (sym is) ∙ c.in-Ok-read_line.ensures.«record»)

pub returns-in-Err-Line-clause-refused : goal.returns-in-Err-Line-clause-refused
returns-in-Err-Line-clause-refused c line is free =
    let same = ap (λ (n : ℕ). take n c.args.bytes.now) c.saturating_sub.ensures ∙ without_end line c.args.bytes.now is in (
      omega (arith, c.saturating_add.ensures),
      said_plain c.args.before line (Err c.in-Err-Line.fault)
          (ap (λ (l : List ℕ). nat_eq c.args.before 0 && is_floor_line l) (sym same) ∙ sym c.says_floor.ensures ∙ c.if-says_floor.false)
          (sym (front_reading line free) ∙ ap reading_at_front (sym is) ∙ rw c.in-Err-Line.field-0-is at c.in-Err-Line.ensures.fault),
    )
