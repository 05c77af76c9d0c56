-- Batches that leave a registry open. Below, rs are the last records before the batch and n is the next offset.
use Rattle.std.specs.Prelude.{◌≡◌, ◌⊎◌, ℕ, ◌+◌, List, [], ◌∷◌, ◌++◌, length, Bool, false, Some, None, All}
use Rattle.std.specs.List.{Contains}
use Rattle.reg_rules.specs.avro_schema.Schema.{Meaning, schema_of}
use Rattle.reg_rules.specs.reg_entries.declared.entry.Entry.{Entry}
use Rattle.reg_rules.specs.reg_fold.Entries.{entries}
use Rattle.reg_rules.specs.reg_fold.Opaque.{is_version}
use Rattle.reg_rules.specs.reg_records.Written.{IsVersionOrId}
use Rattle.reg_rules.specs.reg_records.WrittenValue.{written_value}
use Rattle.reg_rules.specs.reg_records.declared.key.Key.TheVariants as keys
use Rattle.reg_rules.specs.reg_records.declared.record.Record.{Record}
use Rattle.reg_rules.specs.reg_records.declared.value.Value.TheVariants as values
use Rattle.reg_rules.specs.reg_set.Records.{Records}
use Rattle.reg_leader.specs.Step.{IsStep}
use Rattle.reg_leader.specs.declared.command.Command.{Command}
use Rattle.reg_leader.specs.declared.reply.Reply.{Reply}

-- a record without a value, or of another key than a version's
abbrev pub IsQuiet : Record → Type 0
IsQuiet r = (r.value ≡ None) ⊎ (is_version r.key ≡ false)

-- one version, after quiet records, within its limits, whose text is a schema's and whose id names no other schema
pub record IsOneVersion (rs : Records) (n : ℕ) (batch : List Record) : Type 0 where
  pub subject : List ℕ
  pub version : ℕ
  pub id : ℕ
  pub text : List ℕ
  pub deleted : Bool
  pub first : List Record
  pub are_quiet : All IsQuiet first
  pub one_record : batch ≡ first ++ record {
    offset = n + length first;
    key = keys.Schema subject version;
    value = written_value
        (values.Schema subject version id text deleted);
  } ∷ []
  pub version_fits : IsVersionOrId version
  pub id_fits : IsVersionOrId id
  pub schema : Meaning
  pub is_read : schema_of text ≡ Some schema
  pub names_no_other : (e : Entry) → Contains (entries rs) e → e.id ≡ id → e.normal ≡ schema.normal_text

abbrev pub IsHarmless : Records → ℕ → List Record → Type 0
IsHarmless rs n batch = All IsQuiet batch ⊎ IsOneVersion rs n batch

-- whatever a command writes is harmless
abbrev pub StepsAreHarmless : Type 0
StepsAreHarmless = (rs : Records) (n : ℕ) (c : Command) (reply : Reply) (batch : List Record)
    → IsStep rs n c reply batch
    → IsHarmless rs n batch
