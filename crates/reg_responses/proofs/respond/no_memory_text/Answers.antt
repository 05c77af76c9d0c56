use Rattle.std.proofs.Common.{sym}
use Rattle.reg_responses.proofs.Examples.{no_memory, no_memory_closing}
use Rattle.reg_responses.proofs.respond.no_memory_text.Goals as goal

pub returns-then-closes : goal.returns-then-closes
returns-then-closes c = rw c.if-closes.true (sym no_memory_closing)

pub returns-else-closes : goal.returns-else-closes
returns-else-closes c = rw c.if-closes.false (sym no_memory)
