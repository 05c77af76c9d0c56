use Rattle.std.proofs.Common.{ℕ, List, length}
use Rattle.reg_adapter.specs.Messages.{HasRead}
use Rattle.reg_adapter.specs.declared.told.AdapterMessage.{AdapterMessage}
use Rattle.reg_adapter.proofs.messages.Messages.next.Given as goal

-- no message was given yet
abbrev pub invariant-lines : goal.invariant-lines
invariant-lines l = (text : List ℕ) (told : List AdapterMessage) → HasRead text told l.fn.self → HasRead text told l.self

abbrev pub decreases-lines : goal.decreases-lines
decreases-lines l = length l.self.lines.bytes
