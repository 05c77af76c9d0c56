use Rattle.reg_topic.proofs.Topics.{after_more, lawful_parts}
use Rattle.reg_topic.proofs.laws.lists_are_joined.Goals as goal

pub returns-clause-in_turn : goal.returns-clause-in_turn
returns-clause-in_turn c = after_more

pub returns-clause-lawful : goal.returns-clause-lawful
returns-clause-lawful c = lawful_parts
