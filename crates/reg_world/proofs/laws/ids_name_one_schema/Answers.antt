use Rattle.reg_world.proofs.Answers.{ids}
use Rattle.reg_world.proofs.laws.ids_name_one_schema.Goals as goal

pub returns : goal.returns
returns c = ids c.lower_laws.ensures c.lawful_lists_keep_ids.ensures.ids
