use Rattle.std.proofs.Common.{inl}
use Rattle.reg_program.proofs.starting.begin.Goals as goal

pub returns-in-Ok : goal.returns-in-Ok
returns-in-Ok g c = inl (
  c.in-Ok.opened.words,
  c.in-Ok.opened.reader,
  c.run.new.self.reader,
  c.in-Ok.opened.writer,
  c.run.new.self.writer,
  c.in-Ok.ensures.opened,
  c.run.ensures,
)
