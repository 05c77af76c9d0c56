use Rattle.std.proofs.Common.{◌∙◌}
use Rattle.reg_lookup.proofs.Asked.{asked_read, verdict_of_text}
use Rattle.reg_lookup.proofs.checked.verdict_on.Goals as goal

pub returns-in-Ok-clause-found : goal.returns-in-Ok-clause-found
returns-in-Ok-clause-found c = (
  c.in-Ok.olds,
  asked_read c.args.olds c.args.text.now c.in_ok-schema.schema c.in_ok-schema.ensures.found ∙ c.in-Ok.is,
  verdict_of_text c.args.level c.args.text.now c.in_ok-schema.schema c.in-Ok.olds c.in_ok-check_each-in-Ok.field-0
      c.in_ok-schema.ensures.means c.in_ok-check_each-in-Ok.ensures,
)
