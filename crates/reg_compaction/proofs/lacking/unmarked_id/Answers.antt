use Rattle.std.proofs.Common.{arith}
use Rattle.std.proofs.lemmas.Result.{IfOk-weaker}
use Rattle.reg_compaction.proofs.lacking.unmarked_id.Goals as goal

pub returns-clause-within : goal.returns-clause-within
returns-clause-within c =
    IfOk-weaker c.greatest_named.result _ _
    (λ id is. omega (arith, is, (c.greatest_named_is_greatest.ensures c.args.records.now).within)) c.greatest_named.ensures
