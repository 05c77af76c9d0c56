use Rattle.reg_program.proofs.starting.Opened.run.Goals as goal

pub returns : goal.returns
returns g c = rw c.deref.ensures.value at c.run.ensures
