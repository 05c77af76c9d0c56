-- Soft deletes of subjects in batches. Below, rs are the last records before the batch and n is the next offset.
use Rattle.std.specs.Prelude.{◌≡◌, ◌⊎◌, ℕ, List, [], ◌∷◌, false, Some, All}
use Rattle.reg_rules.specs.reg_fold.Standing.{greatest_version}
use Rattle.reg_rules.specs.reg_records.Written.{IsVersionOrId}
use Rattle.reg_rules.specs.reg_records.WrittenValue.{written_value}
use Rattle.reg_rules.specs.reg_records.Key.{is_delete}
use Rattle.reg_rules.specs.reg_records.declared.key.Key.TheVariants as keys
use Rattle.reg_rules.specs.reg_records.declared.record.Record.{Record}
use Rattle.reg_rules.specs.reg_records.declared.value.Value.TheVariants as values
use Rattle.reg_rules.specs.reg_set.Records.{Records}
use Rattle.reg_leader.specs.Step.{IsStep}
use Rattle.reg_leader.specs.declared.command.Command.{Command}
use Rattle.reg_leader.specs.declared.reply.Reply.{Reply}

-- one soft delete alone, which names the greatest version of the subject, soft ones too
pub record IsSoftDelete (rs : Records) (n : ℕ) (batch : List Record) : Type 0 where
  pub subject : List ℕ
  pub greatest : ℕ
  pub one_record : batch
      ≡ record { offset = n; key = keys.DeleteSubject subject; value = written_value (values.DeleteSubject subject greatest) } ∷ []
  pub is_greatest : greatest_version rs subject ≡ Some greatest
  pub greatest_fits : IsVersionOrId greatest

-- a batch has no soft delete of a subject, or is one that names the greatest version
abbrev pub DeletesNameGreatest : Type 0
DeletesNameGreatest = (rs : Records) (n : ℕ) (c : Command) (reply : Reply) (batch : List Record) → IsStep rs n c reply batch
    → All (λ r. is_delete r.key ≡ false) batch ⊎ IsSoftDelete rs n batch
