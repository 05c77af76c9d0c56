use Rattle.reg_rules.proofs.judging.fitting.Goals as goal

pub returns-in-Some : goal.returns-in-Some
returns-in-Some c = c.fits.ensures.0 assumption
