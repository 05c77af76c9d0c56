-- Whether memory was refused.
use Rattle.std.specs.Prelude.{Bool, true, false}
use Rattle.reg_refusals.specs.declared.reason.StoreFault.{StoreFault}
use Rattle.reg_refusals.specs.declared.reason.StoreFault.TheVariants as faults
use Rattle.reg_refusals.specs.declared.refusal.Refusal.{Refusal}
use Rattle.reg_refusals.specs.declared.refusal.Refusal.TheVariants as refusals
use Rattle.reg_leader.specs.declared.reply.Reply.{Reply}
use Rattle.reg_leader.specs.declared.reply.Reply.TheVariants as replies

-- private, as the one below
abbrev pub is_memory : StoreFault → Bool
is_memory faults.Memory = true
is_memory _ = false

-- a refusal for want of memory
abbrev pub is_memory_refusal : Refusal → Bool
is_memory_refusal (refusals.Store fault) = is_memory fault
is_memory_refusal _ = false

-- the reply is that memory was refused
abbrev pub is_no_memory : Reply → Bool
is_no_memory (replies.Refused refusal) = is_memory_refusal refusal
is_no_memory _ = false
