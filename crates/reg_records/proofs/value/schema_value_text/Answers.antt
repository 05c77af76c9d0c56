use Rattle.std.proofs.Common.{◌≡◌, ◌∙◌, ◌++◌, ℕ, List, Bool, Some, codes, decimal, ap, rules, append_assoc}
use Rattle.std.proofs.lemmas.Result.{IfOk-weaker}
use Rattle.json.specs.Print.{escape_byte, quoted}
use Rattle.serde_json.specs.Data.{boolean}
use Rattle.serde_json.specs.Written.{compact_text}
use Rattle.reg_records.specs.declared.value.Value.TheVariants.{Schema}
use Rattle.reg_records.specs.WrittenValue.{written_value}
use Rattle.reg_records.proofs.value.schema_value_text.Goals as goal

value_text : (subject : List ℕ) (version id : ℕ) (schema : List ℕ) (deleted : Bool)
    → Some (
    codes "{\"subject\":" ++ quoted subject ++ codes ",\"version\":" ++ decimal version ++ codes ",\"id\":" ++ decimal id
    ++ codes ",\"schema\":" ++ quoted schema ++ codes ",\"deleted\":" ++ compact_text (boolean deleted) ++ codes "}")
    ≡ written_value (Schema subject version id schema deleted)
unfolding written_value escape_byte
value_text subject version id schema deleted = simp append_assoc

pub returns : goal.returns
returns c = IfOk-weaker c.schema_value_object.result _ _ (λ _ same. ap Some same ∙ search (rules, value_text)) c.schema_value_object.ensures
