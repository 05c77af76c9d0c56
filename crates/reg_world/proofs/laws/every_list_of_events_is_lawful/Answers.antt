use Rattle.reg_world.proofs.Answers.{kept_is_compaction, log_is_lawful, no_item_is_skipped, nodes_are_compactions}
use Rattle.reg_world.proofs.laws.every_list_of_events_is_lawful.Goals as goal

pub returns-clause-log : goal.returns-clause-log
returns-clause-log c = log_is_lawful c.lower_laws.ensures

pub returns-clause-whole : goal.returns-clause-whole
returns-clause-whole c = no_item_is_skipped c.lower_laws.ensures

pub returns-clause-kept : goal.returns-clause-kept
returns-clause-kept c = kept_is_compaction c.lower_laws.ensures

pub returns-clause-nodes : goal.returns-clause-nodes
returns-clause-nodes c = nodes_are_compactions c.lower_laws.ensures
