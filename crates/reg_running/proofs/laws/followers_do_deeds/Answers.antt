use Rattle.reg_running.proofs.Deeds.{followers_are_nodes, views_tell}
use Rattle.reg_running.proofs.laws.followers_do_deeds.Goals as goal

pub returns-clause-followers : goal.returns-clause-followers
returns-clause-followers c = followers_are_nodes

pub returns-clause-views : goal.returns-clause-views
returns-clause-views c = views_tell
