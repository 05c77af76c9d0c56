use Rattle.std.proofs.Common.{take, ap, ◌∙◌, arith}
use Rattle.reg_set.proofs.Alone.{swapped-alone}
use Rattle.reg_set.proofs.of_one_key.leave_last.Goals as goal

pub returns-in-Some : goal.returns-in-Some
returns-in-Some c =
    c.truncate.ensures.items ∙ ap (take 1) c.swap.ensures.items ∙ swapped-alone c.args.records.now.items c.in-Some.place (omega arith)
