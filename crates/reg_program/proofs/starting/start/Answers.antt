use Rattle.reg_program.proofs.starting.start.Goals as goal

pub returns : goal.returns
returns g c = (
  c.errors.result,
  c.new-errors.result,
  c.begin.new.errors,
  c.errors.ensures,
  (
    c.new-errors.ensures.inner,
    c.new-errors.ensures.faults,
    c.new-errors.ensures.reads,
    c.new-errors.ensures.all_reads,
    c.new-errors.ensures.place,
    c.new-errors.ensures.begun,
    c.new-errors.ensures.interruptions,
    c.new-errors.ensures.all_interruptions,
  ),
  c.begin.ensures,
)
