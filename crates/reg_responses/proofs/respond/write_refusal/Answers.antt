use Rattle.std.proofs.Common.{subst}
use Rattle.reg_responses.specs.Response.{allow_in, refusal_text, response_text}
use Rattle.reg_responses.specs.Writing.{Writes}
use Rattle.reg_responses.proofs.respond.write_refusal.Goals as goal

pub returns-clause-written : goal.returns-clause-written
unfolding refusal_text
returns-clause-written g c =
    subst (λ answer. Writes g.W.Write.contents c.args.writer.now c.write_response.new.writer
    (response_text answer.status (allow_in c.args.refusal.now) c.args.closes answer.body) c.write_response.result)
    c.refusal_pieces-status.ensures (rw c.allow_in.ensures at c.write_response.ensures.written)
