use Rattle.std.proofs.Common.{◌≡◌, ◌∙◌, ◌++◌, ℕ, Some, codes, decimal, ap, append_assoc}
use Rattle.std.proofs.lemmas.Result.{IfOk-weaker}
use Rattle.json.specs.Print.{escape_byte}
use Rattle.reg_records.specs.declared.value.Value.TheVariants.{IdMark}
use Rattle.reg_records.specs.WrittenValue.{written_value}
use Rattle.reg_records.proofs.value.id_mark_value_text.Goals as goal

value_text : (id : ℕ) → Some (codes "{\"id\":" ++ (decimal id ++ codes "}")) ≡ written_value (IdMark id)
unfolding written_value escape_byte
value_text id = simp append_assoc

pub returns : goal.returns
returns c = IfOk-weaker c.format.result _ _ (λ _ same. ap Some same ∙ value_text _) c.format.ensures.ok
