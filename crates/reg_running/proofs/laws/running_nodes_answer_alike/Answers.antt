use Rattle.reg_running.proofs.Claims.{answer_alike}
use Rattle.reg_running.proofs.laws.running_nodes_answer_alike.Goals as goal

pub returns : goal.returns
returns c = answer_alike c.compactions_answer_alike.ensures c.queries_have_one_answer.ensures
