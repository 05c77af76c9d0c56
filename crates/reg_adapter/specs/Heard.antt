-- What some lines of an adapter tell.
use Rattle.std.specs.Prelude.{ℕ, List, [], ◌∷◌, ◌++◌, Option, Some, None, Result, Ok, Err}
use Rattle.std.specs.Result.{result_map_both}
use Rattle.reg_records.specs.declared.record.Read.{Read}
use Rattle.reg_adapter.specs.Said.{part_in, word_in}
use Rattle.reg_adapter.specs.declared.fault.MessageFault.{MessageFault}
use Rattle.reg_adapter.specs.declared.line.Part.{Part}
use Rattle.reg_adapter.specs.declared.line.Part.TheVariants as parts
use Rattle.reg_adapter.specs.declared.line.Word.{Word}
use Rattle.reg_adapter.specs.declared.line.Word.TheVariants as words
use Rattle.reg_adapter.specs.declared.told.AdapterMessage.{AdapterMessage}
use Rattle.reg_adapter.specs.declared.told.AdapterMessage.TheVariants.{Batch, Answer, Ready}

-- the messages, and what the lines say of the batch that is begun, where one is
pub record Heard : Type 0 where
  pub told : List AdapterMessage
  pub begun : Option (List Read)

abbrev pub nothing_heard : Heard
nothing_heard = record { told = []; begun = None }

-- a word behind these messages
abbrev pub with_word : List AdapterMessage → Word → Heard
with_word told words.Batch = record { told = told; begun = Some [] }
with_word told (words.Answer answer) = record { told = told ++ Answer answer ∷ []; begun = None }
with_word told words.Ready = record { told = told ++ Ready ∷ []; begun = None }

-- a line behind these of a batch
abbrev pub with_part : List AdapterMessage → List Read → Part → Heard
with_part told begun (parts.Line read) = record { told = told; begun = Some (begun ++ read ∷ []) }
with_part told begun parts.End = record { told = told ++ Batch begun ∷ []; begun = None }

-- what was told, with one line more, or that line's fault
abbrev pub heard_with : List AdapterMessage → Option (List Read) → List ℕ → Result Heard MessageFault
heard_with told None line = result_map_both (with_word told) (λ fault. fault) (word_in line)
heard_with told (Some begun) line = result_map_both (with_part told begun) (λ fault. fault) (part_in begun line)

abbrev pub then_heard : (Heard → Result Heard MessageFault) → Result Heard MessageFault → Result Heard MessageFault
then_heard more (Err fault) = Err fault
then_heard more (Ok h) = more h

-- what was told, with some lines more, or the first fault that they have
abbrev pub heard_from : Heard → List (List ℕ) → Result Heard MessageFault
heard_from h [] = Ok h
heard_from h (line ∷ lines) = then_heard (λ next. heard_from next lines) (heard_with h.told h.begun line)

-- what some lines tell
abbrev pub heard_of : List (List ℕ) → Result Heard MessageFault
heard_of lines = heard_from nothing_heard lines
