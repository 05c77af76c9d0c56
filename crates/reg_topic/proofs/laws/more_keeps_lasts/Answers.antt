use Rattle.reg_topic.proofs.More.{more_keeps}
use Rattle.reg_topic.proofs.laws.more_keeps_lasts.Goals as goal

pub returns : goal.returns
returns c = more_keeps c.records_are_ordered.ensures.all
