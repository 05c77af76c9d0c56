use Rattle.std.proofs.Common.{◌≡◌, ◌∙◌, ◌++◌, ℕ, List, codes, ap, append_assoc}
use Rattle.std.proofs.lemmas.Result.{IfOk-weaker}
use Rattle.reg_records.proofs.key.scope_key_text.Goals as goal

-- the pieces, one after another
joined : (kind written subject : List ℕ) → written ≡ subject
    → codes "{\"keytype\":\"" ++ (kind ++ (codes "\",\"subject\":" ++ (written ++ codes ",\"magic\":0}")))
    ≡ codes "{\"keytype\":\"" ++ kind ++ codes "\",\"subject\":" ++ subject ++ codes ",\"magic\":0}"
joined kind written subject e =
    ap (λ s. codes "{\"keytype\":\"" ++ (kind ++ (codes "\",\"subject\":" ++ (s ++ codes ",\"magic\":0}")))) e ∙ simp append_assoc

pub returns : goal.returns
returns c =
    IfOk-weaker c.of_string.result _ _ (λ _ same. same ∙ c.in_ok-text.ensures.ok ∙ joined _ _ _ c.in_ok-subject.ensures) c.of_string.ensures
