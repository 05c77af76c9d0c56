use Rattle.reg_topic.proofs.Topics.{after_push, lawful_at, lawful_push}
use Rattle.reg_topic.proofs.laws.lawful_items_follow.Goals as goal

pub returns-clause-in_turn : goal.returns-clause-in_turn
returns-clause-in_turn c = after_push

pub returns-clause-go_on : goal.returns-clause-go_on
returns-clause-go_on c = lawful_push

pub returns-clause-follow : goal.returns-clause-follow
returns-clause-follow c = lawful_at
