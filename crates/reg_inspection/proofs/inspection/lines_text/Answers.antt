use Rattle.std.proofs.Common.{◌≡◌, ◌++◌, ◌∙◌, List, ℕ, codes, append_assoc}
use Rattle.std.proofs.lemmas.Result.{IfOk-weaker}
use Rattle.reg_inspection.proofs.inspection.lines_text.Goals as goal

-- the pieces, one after another
joined : (records foreign floor next : List ℕ)
    → codes "records: "
    ++ (
    records
    ++ (
    codes "\nforeign lines: "
    ++ (foreign ++ (codes "\nfloor: " ++ (floor ++ (codes "\nnext offset: " ++ (next ++ codes "\n")))))))
    ≡ codes "records: " ++ records ++ codes "\nforeign lines: " ++ foreign
    ++ codes "\nfloor: " ++ floor ++ codes "\nnext offset: " ++ next ++ codes "\n"
joined records foreign floor next = simp append_assoc

pub returns : goal.returns
returns c = IfOk-weaker c.format.result _ _ (λ s h. h ∙ joined _ _ _ _) c.format.ensures.ok
