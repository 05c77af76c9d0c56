use Rattle.std.proofs.Common.{◌≡◌, ap, ◌∙◌, arith, false}
use Rattle.std.specs.Prelude.{◌==◌}
use Rattle.std.proofs.lemmas.Bool.Decides.{nat_tests}
use Rattle.reg_messages.specs.Fields.{asks_to_close}
use Rattle.reg_messages.proofs.Places.{wants-field}
use Rattle.reg_messages.proofs.reading.wants_close.Goals as goal

pub returns-else-head-eq0 : goal.returns-else-head-eq0
returns-else-head-eq0 c = λ h at.
    let later : (h.minor == 0) ≡ false = grind (arith, nat_tests, at.version, c.if-head-eq0.false) in
    c.asks_to_close.ensures ∙ ap asks_to_close (c.fields_in.ensures h at) ∙ wants-field h later
