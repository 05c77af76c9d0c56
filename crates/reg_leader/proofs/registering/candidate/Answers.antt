use Rattle.reg_leader.proofs.Leading.{before_read}
use Rattle.reg_leader.proofs.registering.candidate.Goals as goal

pub returns : goal.returns
returns c =
    before_read c.args.registry.now c.args.next c.args.subject.now c.args.text.now c.in_ok-schema.schema c.in_ok-schema.ensures
    c.candidate_of.result c.candidate_of.ensures
