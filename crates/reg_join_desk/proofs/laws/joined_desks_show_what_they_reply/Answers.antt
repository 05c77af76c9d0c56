use Rattle.reg_join_desk.proofs.Ordered.{show_replies}
use Rattle.reg_join_desk.proofs.laws.joined_desks_show_what_they_reply.Goals as goal

pub returns : goal.returns
returns g c = show_replies g.C.Chain.told g.C.Chain.answers
