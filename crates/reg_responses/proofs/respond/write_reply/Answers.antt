use Rattle.std.proofs.Common.{subst}
use Rattle.reg_responses.specs.Response.{answer_text}
use Rattle.reg_responses.specs.Writing.{Writes}
use Rattle.reg_responses.proofs.respond.write_reply.Goals as goal

pub returns-clause-written : goal.returns-clause-written
returns-clause-written g c =
    subst (λ answer. Writes g.W.Write.contents c.args.writer.now c.write_response.new.writer (answer_text c.args.closes answer) c.write_response.result)
    c.reply_pieces-status.ensures c.write_response.ensures.written
