-- How a conversation stands, and what each call does.
use Rattle.std.specs.Prelude.{◌≡◌, ℕ, List, [], ◌∷◌, ◌++◌, Bool, true, false, Option, Some, None, option_map, option_to_list, if◌then◌else◌}
use Rattle.reg_records.specs.declared.record.Record.{Record}
use Rattle.reg_adapter.specs.declared.told.AdapterMessage.{AdapterMessage}
use Rattle.reg_adapter.specs.declared.told.AdapterMessage.TheVariants as messages
use Rattle.reg_chain.specs.Chain.{told_after}
use Rattle.reg_chain.specs.declared.chain.ChainAnswer.{ChainAnswer}
use Rattle.reg_adapter_chain.specs.Batches.{begins_at}
use Rattle.reg_adapter_chain.specs.Course.{Course, Event, Tells, course_by, course_of}
use Rattle.reg_adapter_chain.specs.Requests.{meaning}
use Rattle.reg_adapter_chain.specs.declared.asking.Asking.{Asking}
use Rattle.reg_adapter_chain.specs.declared.asking.Asking.TheVariants as askings
use Rattle.reg_adapter_chain.specs.declared.asking.TellError.{TellError}
use Rattle.reg_adapter_chain.specs.declared.asking.TellError.TheVariants as errors
use Rattle.reg_adapter_chain.specs.declared.request.AppendRequest.{AppendRequest}

-- the batches that were told and aren't handed out, the offset behind all that was told, the request that has no answer, and whether a
-- command waits for it
pub record Standing : Type 0 where
  pub due : List (List Record)
  pub next : ℕ
  pub request : Option AppendRequest
  pub waits : Bool

-- what the conversation comes to, where these were handed out
abbrev pub course : List (List Record) → Standing → Course
course handed s = record { batches = handed ++ s.due; next = s.next; request = s.request }

-- these events brought it here, and these batches were handed out
abbrev pub HasComeTo : ℕ → List Event → List (List Record) → Standing → Type 0
HasComeTo first events handed s = course_of first events ≡ Some (course handed s)

-- what was handed out, with the batch that a command's answer says is kept
abbrev pub handed_by : List (List Record) → Option AppendRequest → Option ChainAnswer → List (List Record)
handed_by handed None answer = handed
handed_by handed (Some r) None = handed
handed_by handed (Some r) (Some answer) = told_after handed r.batch answer

-- what a command is told that waits
abbrev pub answer_in : Standing → AdapterMessage → Option ChainAnswer
answer_in s (messages.Batch reads) = None
answer_in s (messages.Answer said) = if s.waits then option_map (λ (r : AppendRequest). meaning said r.crossed) s.request else None
answer_in s messages.Ready = None

abbrev pub waits_behind : AdapterMessage → Bool → Bool
waits_behind (messages.Batch reads) waits = waits
waits_behind (messages.Answer said) waits = false
waits_behind messages.Ready waits = waits

-- the message is part of the conversation then, and the command that waits has its answer
pub record IsTold (old : Standing) (told : AdapterMessage) (answer : Option ChainAnswer) (new : Standing) : Type 0 where
  pub goes_on : (handed : List (List Record)) → course_by (course handed old) (Tells told) ≡ Some (course (handed_by handed old.request answer) new)
  pub answers : answer ≡ answer_in old told
  pub waits : new.waits ≡ waits_behind told old.waits

-- nothing may be told so; or memory was refused, and the message is given back
abbrev pub IsNotTold : Standing → AdapterMessage → TellError → Type 0
IsNotTold old told errors.Fault = (handed : List (List Record)) → course_by (course handed old) (Tells told) ≡ None
IsNotTold old told (errors.OutOfMemory back) = back ≡ told

-- what becomes of a request: nothing is asked for while something is due, or another one has no answer
abbrev pub asking_in : ℕ → Option AppendRequest → List Record → List (List Record) → Asking
asking_in next request batch (first ∷ more) = askings.Behind
asking_in next (Some r) batch [] = askings.Open
asking_in next None batch [] = if begins_at next batch then askings.Asked else askings.Misplaced

abbrev pub standing_by : Asking → Standing → List Record → Standing
standing_by askings.Asked old batch = record old { request = Some (record { batch = batch; crossed = false }); waits = true }
standing_by askings.Behind old batch = old
standing_by askings.Open old batch = old
standing_by askings.Misplaced old batch = old

-- it is asked for, or it isn't, and all is as it was
pub record IsAsked (old : Standing) (batch : List Record) (asking : Asking) (new : Standing) : Type 0 where
  pub asks : asking ≡ asking_in old.next old.request batch old.due
  pub stands : new ≡ standing_by asking old batch

-- the first batch that is due, if one is
pub record IsHanded (old : Standing) (batch : Option (List Record)) (new : Standing) : Type 0 where
  pub due : old.due ≡ option_to_list batch ++ new.due
  pub same : new ≡ record old { due = new.due }
