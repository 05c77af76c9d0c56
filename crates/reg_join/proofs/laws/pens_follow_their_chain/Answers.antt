use Rattle.reg_join.proofs.Following.{stay_joined}
use Rattle.reg_join.proofs.Standing.{compactions_stay_joined}
use Rattle.reg_join.proofs.laws.pens_follow_their_chain.Goals as goal

pub returns-clause-submits : goal.returns-clause-submits
returns-clause-submits g c = stay_joined g.C.Chain.told g.C.Chain.answers

pub returns-clause-compactions : goal.returns-clause-compactions
returns-clause-compactions g c = compactions_stay_joined g.C.Chain.told
