use Rattle.std.proofs.lemmas.Result.{IfOk-weaker}
use Rattle.reg_values.proofs.BroughtValues.{with_normal-version}
use Rattle.reg_values.proofs.brought.with_normal.Goals as goal

pub returns : goal.returns
returns c =
    rw c.in-Schema.is (
    IfOk-weaker c.decode_version.result _ _ (λ found e.
    with_normal-version c.in-Schema.subject c.in-Schema.version c.in-Schema.id c.in_ok-clone-2.field-0 c.in-Schema.schema
    c.in-Schema.deleted found c.in_ok-clone-2.ensures.cases e) c.decode_version.ensures)
