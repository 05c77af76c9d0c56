use Rattle.std.proofs.Common.{ap, length, arith}
use Rattle.reg_messages.proofs.Extents.{takes-now}
use Rattle.reg_conversation.proofs.conversation.Conversation.front_len.Goals as goal

pub returns-then-len-held_len-clause-whole : goal.returns-then-len-held_len-clause-whole
returns-then-len-held_len-clause-whole c =
    (takes-now c.args.self.now c.in-Some.len c.in-Some.ensures.needed.1).0
    (omega (arith, c.if-len-held_len.true, c.held_len.ensures, ap length c.needed.ensures.same))

pub returns-else-len-held_len-clause-short : goal.returns-else-len-held_len-clause-short
returns-else-len-held_len-clause-short c =
    (takes-now c.args.self.now c.in-Some.len c.in-Some.ensures.needed.1).1
    (omega (arith, c.if-len-held_len.false, c.held_len.ensures, ap length c.needed.ensures.same))
