use Rattle.std.proofs.Common.{append-nil}
use Rattle.reg_responses.proofs.respond.write_answer.Goals as goal

pub returns-clause-written : goal.returns-clause-written
returns-clause-written g c = rw (append-nil c.as_str.result.now, c.as_str.ensures) at c.write_response.ensures.written
