use Rattle.reg_running.proofs.Claims.{keep_promises}
use Rattle.reg_running.proofs.laws.running_nodes_keep_promises.Goals as goal

pub returns : goal.returns
returns c = keep_promises c.lawful_lists_are_of_acts.ensures.lawful c.lawful_lists_keep_ids.ensures.ids c.lawful_lists_meet_levels.ensures
