use Rattle.std.proofs.Common.{ap}
use Rattle.reg_responses.specs.Response.{answer_text}
use Rattle.reg_processes.proofs.laws.same_logs_give_same_bytes.Goals as goal

pub returns : goal.returns
returns c p q took query one other is_one is_other closes =
    ap (answer_text closes) (c.same_logs_give_alike.ensures.answers p q took query one other is_one is_other)
