use Rattle.reg_join.proofs.Ending.{at_their_places}
use Rattle.reg_join.proofs.laws.replies_are_at_their_places.Goals as goal

pub returns : goal.returns
returns g c = at_their_places g.C.Chain.told g.C.Chain.answers
