use Rattle.std.proofs.Common.{◌≡◌, ◌++◌, ◌∙◌, List, ℕ, Bool, true, false, cond, codes, append_assoc}
use Rattle.std.proofs.lemmas.Result.{IfOk-weaker}
use Rattle.serde_json.specs.Data.{boolean}
use Rattle.serde_json.specs.Written.{compact_text}
use Rattle.reg_records.proofs.value.schema_value_object.Goals as goal

-- the pieces, one after another
joined : (subject version id schema : List ℕ) (deleted : Bool)
    → codes "{\"subject\":"
    ++ (
    subject
    ++ (codes ",\"version\":"
    ++ (version
    ++ (codes ",\"id\":"
    ++ (id
    ++ (codes ",\"schema\":"
    ++ (schema ++ (codes ",\"deleted\":" ++ (cond deleted (codes "true") (codes "false") ++ codes "}")))))))))
    ≡ codes "{\"subject\":" ++ subject ++ codes ",\"version\":" ++ version ++ codes ",\"id\":" ++ id
    ++ codes ",\"schema\":" ++ schema ++ codes ",\"deleted\":" ++ compact_text (boolean deleted) ++ codes "}"
joined subject version id schema true = simp append_assoc
joined subject version id schema false = simp append_assoc

pub returns : goal.returns
returns c = IfOk-weaker c.format.result _ _ (λ s h. h ∙ joined _ _ _ _ c.args.deleted) c.format.ensures.ok
