-- What threads do with what a process and its adapter say to each other.
use Rattle.std.specs.Prelude.{◌≡◌, ◌≢◌, ◌⊎◌, ◌≤◌, Vec, ℕ, List, [], true, false, ◌||◌, Option, Some, None, length}
use Rattle.reg_records.specs.declared.record.Record.{Record}
use Rattle.reg_adapter.specs.declared.told.AdapterMessage.{AdapterMessage}
use Rattle.reg_chain.specs.declared.chain.ChainAnswer.{ChainAnswer}
use Rattle.reg_chain.specs.declared.chain.ChainAnswer.TheVariants.{Kept, Behind, Declined, Unknown}
use Rattle.reg_adapter_chain.specs.Standing.{IsAsked, IsNotTold, IsTold}
use Rattle.reg_adapter_chain.specs.declared.asking.Asking.TheVariants.{Asked}
use Rattle.reg_adapter_chain.specs.declared.asking.TellError.{TellError}
use Rattle.reg_adapter_line.specs.Answers.{later}
use Rattle.reg_adapter_line.specs.Messages.{is_ready_message}
use Rattle.reg_adapter_line.specs.declared.exchange.Exchange.{Exchange}
use Rattle.reg_adapter_line.specs.declared.exchange.TheConstants.{DUE_LIMIT}
use Rattle.std.specs.declared.alloc.Global.{Global}

-- nothing was said behind a base whose next offset is this
abbrev pub begun : ℕ → Exchange
begun next = record { conversation = record { due = []; next = next; request = None; waits = false }; request = None; answer = None; is_ready = false; end = None }

-- the conversation asks for the batch, these bytes are to be written, and no answer came yet
pub record IsAskedFor (old : Exchange) (batch : List Record) (bytes : Vec ℕ Global) (new : Exchange) : Type 0 where
  pub goes_on : old.end ≡ None
  pub asks : IsAsked old.conversation batch Asked new.conversation
  pub stands : new ≡ record old { conversation = new.conversation; request = Some bytes; answer = None }

-- a batch that isn't asked for is behind where something is due, and declined where nothing is
abbrev pub IsAtOnce : Exchange → ChainAnswer → Type 0
IsAtOnce s Kept = ⊥
IsAtOnce s Behind = s.conversation.due ≢ []
IsAtOnce s Declined = s.conversation.due ≡ []
IsAtOnce s Unknown = ⊥

-- the message is part of the conversation, and the command that waits has its answer
pub record IsHeard (old : Exchange) (told : AdapterMessage) (new : Exchange) : Type 0 where
  pub answer : Option ChainAnswer
  pub is_told : IsTold old.conversation told answer new.conversation
  pub stands : new ≡ record old { conversation = new.conversation; answer = later old.answer answer; is_ready = old.is_ready || is_ready_message told }

-- the message may not be part of it; or memory was refused, and it is given back
abbrev pub IsNotHeard : Exchange → AdapterMessage → TellError → Type 0
IsNotHeard old told error = IsNotTold old.conversation told error

abbrev pub settled_from : Option ChainAnswer → Exchange → Exchange
settled_from (Some answer) s = record s { answer = None }
settled_from None s = record s { conversation = record s.conversation { waits = false } }

-- the answer is taken, or the command waits no more
abbrev pub by_settling : Exchange → Exchange
by_settling s = settled_from s.answer s

-- no answer came, and one still may
abbrev pub IsWaiting : Exchange → Type 0
IsWaiting s = (s.answer ≡ None) × (s.end ≡ None)

-- somebody waits for an answer, or hasn't taken it, and it isn't over
pub record IsTaken (s : Exchange) : Type 0 where
  pub goes_on : s.end ≡ None
  pub waited_for : (s.answer ≢ None) ⊎ (s.conversation.waits ≡ true)

-- a request has no answer, and it isn't over
pub record IsOpen (s : Exchange) : Type 0 where
  pub goes_on : s.end ≡ None
  pub asked : s.conversation.request ≢ None

-- so many batches are due that the next message waits: nobody waits for an answer, which may stand behind
pub record IsFull (s : Exchange) : Type 0 where
  pub nobody_waits : s.conversation.waits ≡ false
  pub goes_on : s.end ≡ None
  pub many : DUE_LIMIT ≤ length s.conversation.due
