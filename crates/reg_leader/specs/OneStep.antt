-- What is true of every single step. Below, rs are the last records and n is the next offset.
use Rattle.std.specs.Prelude.{◌≡◌, ◌⊎◌, ℕ, suc, ◌+◌, ◌≤◌, length, List, [], ◌∷◌, All, Bool, true, false, ◌&&◌, ◌==◌, Some, None, is_some}
use Rattle.reg_rules.specs.avro_schema.Schema.{Meaning, schema_of}
use Rattle.reg_rules.specs.reg_fold.InForce.{level}
use Rattle.reg_rules.specs.reg_fold.Standing.{live}
use Rattle.reg_rules.specs.reg_levels.Texts.{TextsMeet}
use Rattle.reg_rules.specs.reg_values.Value.{value_of}
use Rattle.reg_rules.specs.reg_records.Written.{HasLine}
use Rattle.reg_rules.specs.reg_records.WrittenValue.{written_value}
use Rattle.reg_rules.specs.reg_records.declared.key.Key.TheVariants as keys
use Rattle.reg_rules.specs.reg_records.declared.limits.TheConstants.{OFFSET_LIMIT}
use Rattle.reg_rules.specs.reg_records.declared.record.Record.{Record}
use Rattle.reg_rules.specs.reg_records.declared.value.Value.TheVariants as values
use Rattle.reg_rules.specs.reg_refusals.declared.refusal.Refusal.{Refusal}
use Rattle.reg_rules.specs.reg_set.Records.{Records}
use Rattle.reg_rules.specs.reg_entries.Sought.{texts_of}
use Rattle.reg_leader.specs.Step.{IsStep}
use Rattle.reg_leader.specs.declared.command.Command.{Command}
use Rattle.reg_leader.specs.declared.command.Command.TheVariants as commands
use Rattle.reg_leader.specs.declared.reply.Reply.{Reply}
use Rattle.reg_leader.specs.declared.reply.Reply.TheVariants as replies

-- a refusal writes nothing
abbrev pub RefusalsWriteNothing : Type 0
RefusalsWriteNothing = (rs : Records) (n : ℕ) (c : Command) (why : Refusal) (batch : List Record)
    → IsStep rs n c (replies.Refused why) batch
    → batch ≡ []

-- a command has one reply and one batch, whatever was judged before
abbrev pub StepsAreSingle : Type 0
StepsAreSingle = (rs : Records) (n : ℕ) (c : Command) (reply other : Reply) (batch others : List Record)
    → IsStep rs n c reply batch
    → IsStep rs n c other others
    → (reply ≡ other) × (batch ≡ others)

-- whether the records have the offsets n, n + 1 and so on
abbrev pub goes_on : ℕ → List Record → Bool
goes_on n [] = true
goes_on n (r ∷ rs) = (r.offset == n) && goes_on (suc n) rs

-- what is written goes on at the next offset
abbrev pub BatchesGoOn : Type 0
BatchesGoOn = (rs : Records) (n : ℕ) (c : Command) (reply : Reply) (batch : List Record)
    → IsStep rs n c reply batch
    → goes_on n batch ≡ true

-- each record of a batch has a line, which reads back to the record unless it is too long to be written
abbrev pub BatchesHaveLines : Type 0
BatchesHaveLines = (rs : Records) (n : ℕ) (c : Command) (reply : Reply) (batch : List Record)
    → IsStep rs n c reply batch
    → All HasLine batch

-- the record deletes its key, or its value is read
abbrev pub IsReadable : Record → Type 0
IsReadable r = (r.value ≡ None) ⊎ (is_some (value_of r) ≡ true)

-- each record of a batch is readable
abbrev pub BatchesAreRead : Type 0
BatchesAreRead = (rs : Records) (n : ℕ) (c : Command) (reply : Reply) (batch : List Record)
    → IsStep rs n c reply batch
    → All IsReadable batch

-- nothing is written, or all offsets of the batch are within the limit
abbrev pub BatchesEndByTheLimit : Type 0
BatchesEndByTheLimit = (rs : Records) (n : ℕ) (c : Command) (reply : Reply) (batch : List Record) → IsStep rs n c reply batch
    → (batch ≡ []) ⊎ (n + length batch ≤ suc OFFSET_LIMIT)

-- the batch is one version of the subject, with the schema of that text by its normal
-- text, which meets the level in force against the live versions
pub record RegistersWhatMeets (rs : Records) (n : ℕ) (subject text : List ℕ) (batch : List Record) : Type 0 where
  pub schema : Meaning
  pub is_read : schema_of text ≡ Some schema
  pub version : ℕ
  pub id : ℕ
  pub one_record : batch ≡ record {
    offset = n;
    key = keys.Schema subject version;
    value = written_value
        (values.Schema subject version id schema.normal_text false);
  } ∷ []
  pub meets : TextsMeet (level rs (Some subject)) schema.normal_text (texts_of (live rs subject))

-- what is registered met the level, or nothing is written
abbrev pub StepsMeetLevels : Type 0
StepsMeetLevels = (rs : Records) (n : ℕ) (subject text : List ℕ) (reply : Reply) (batch : List Record)
    → IsStep rs n (commands.Register subject text) reply batch
    → (batch ≡ []) ⊎ RegistersWhatMeets rs n subject text batch
