use Rattle.std.proofs.Common.{ap}
use Rattle.reg_responses.specs.Response.{answer_text}
use Rattle.reg_running.proofs.laws.same_sets_give_same_bytes.Goals as goal

pub returns-clause-worlds : goal.returns-clause-worlds
returns-clause-worlds c events others w v after_w after_v i j whole took_w took_v query one other gives_w gives_v closes =
    ap (answer_text closes)
    (c.nodes_answer_alike.ensures.alike events others w v after_w after_v i j whole took_w took_v query one other gives_w gives_v)

pub returns-clause-running : goal.returns-clause-running
returns-clause-running c r q is_r is_q i j before after others rest query one other whole at_r at_q of_r of_q closes =
    ap (answer_text closes)
    (c.running_nodes_answer_alike.ensures r q is_r is_q i j before after others rest query one other whole at_r at_q of_r of_q)
