use Rattle.std.proofs.Common.{sym, ◌∙◌}
use Rattle.reg_lookup.proofs.Asked.{bad_refused}
use Rattle.reg_lookup.proofs.checked.sound_schema.Goals as goal

pub returns-then-is_err-clause-refused : goal.returns-then-is_err-clause-refused
returns-then-is_err-clause-refused c =
    bad_refused (λ bad. bad.field.now) c.check_defaults.result c.args.text.now c.in-Some.schema
    (sym c.is_err.ensures.value ∙ c.if-is_err.true)
    c.check_defaults.ensures.bad (sym c.in_ok-schema.ensures ∙ c.in-Some.is)
