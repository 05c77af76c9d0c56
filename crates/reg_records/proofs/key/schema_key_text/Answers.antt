use Rattle.std.proofs.Common.{◌≡◌, ◌∙◌, ◌++◌, ℕ, List, codes, decimal, ap, append_assoc}
use Rattle.std.proofs.lemmas.Result.{IfOk-weaker}
use Rattle.std.specs.Fmt.{digits}
use Rattle.json.specs.Print.{escape_byte, quoted}
use Rattle.reg_records.specs.declared.key.Key.TheVariants.{Schema}
use Rattle.reg_records.specs.Written.{written_key}
use Rattle.reg_records.proofs.key.schema_key_text.Goals as goal

schema_text : (written subject : List ℕ) (version : ℕ) → written ≡ quoted subject
    → codes "{\"keytype\":\"SCHEMA\",\"subject\":" ++ (written ++ (codes ",\"version\":" ++ (decimal version ++ codes ",\"magic\":1}")))
    ≡ written_key (Schema subject version)
unfolding written_key escape_byte digits
schema_text written subject version e =
    ap (λ s. codes "{\"keytype\":\"SCHEMA\",\"subject\":" ++ (s ++ (codes ",\"version\":" ++ (decimal version ++ codes ",\"magic\":1}")))) e
    ∙ simp append_assoc

pub returns : goal.returns
returns c =
    IfOk-weaker c.of_string.result _ _ (λ _ same.
    same ∙ c.in_ok-text.ensures.ok ∙ schema_text _ _ _ (c.in_ok-subject.ensures ∙ ap quoted c.as_str.ensures)) c.of_string.ensures
