use Rattle.std.proofs.Common.{◌∙◌, sym, inr, refl}
use Rattle.reg_rules.proofs.Readings.{reading_none, reading_some}
use Rattle.reg_rules.proofs.schemas.read_schema.Goals as goal

pub returns-in-Some : goal.returns-in-Some
returns-in-Some c = reading_some c.args.text.now c.in-Some.reading (sym c.in_ok-found.ensures ∙ c.in-Some.is)

pub returns-in-None : goal.returns-in-None
returns-in-None c = inr (reading_none c.args.text.now (sym c.in_ok-found.ensures ∙ c.in-None.is), refl)
