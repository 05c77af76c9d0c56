use Rattle.std.proofs.Common.{◌≡◌, ◌∙◌, ◌++◌, ℕ, List, Some, codes, decimal, ap, append_assoc}
use Rattle.std.proofs.lemmas.Result.{IfOk-weaker}
use Rattle.json.specs.Print.{escape_byte, quoted}
use Rattle.reg_records.specs.declared.value.Value.TheVariants.{DeleteSubject}
use Rattle.reg_records.specs.WrittenValue.{written_value}
use Rattle.reg_records.proofs.value.delete_subject_value_text.Goals as goal

value_text : (written subject : List ℕ) (version : ℕ) → written ≡ quoted subject
    → Some (codes "{\"subject\":" ++ (written ++ (codes ",\"version\":" ++ (decimal version ++ codes "}"))))
    ≡ written_value (DeleteSubject subject version)
unfolding written_value escape_byte
value_text written subject version e =
    ap (λ s. Some (codes "{\"subject\":" ++ (s ++ (codes ",\"version\":" ++ (decimal version ++ codes "}"))))) e ∙ simp append_assoc

pub returns : goal.returns
returns c =
    IfOk-weaker c.format.result _ _ (λ _ same.
    ap Some same
    ∙ value_text _ _ _ (c.in_ok-subject.ensures ∙ ap quoted c.as_str.ensures)) c.format.ensures.ok
