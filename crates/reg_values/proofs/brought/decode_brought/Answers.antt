use Rattle.std.proofs.lemmas.Result.{IfOk-weaker}
use Rattle.reg_values.proofs.BroughtValues.{says-brought}
use Rattle.reg_values.proofs.brought.decode_brought.Goals as goal

pub returns-in-Some : goal.returns-in-Some
returns-in-Some c =
    IfOk-weaker c.with_normal.result _ _ (λ found is.
    says-brought c.args.key.now _ c.args.text.now found c.written_values_read_back.ensures
    c.in-Some.ensures (c.may_stand_under.ensures c.if-may_stand_under.true) is) c.with_normal.ensures
