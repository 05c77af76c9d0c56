use Rattle.reg_existence.proofs.Empty.{empty_is_adopted}
use Rattle.reg_existence.proofs.laws.empty_topic_is_adopted.Goals as goal

pub returns : goal.returns
returns c =
    empty_is_adopted c.last_is_greatest.ensures.greatest c.entries_are_of_places.ensures.stand
    c.none_is_no_opaque_last.ensures c.two_schemas_is_least.ensures.none
