use Rattle.std.proofs.Common.{◌≡◌, ◌++◌, ◌∙◌, List, ℕ, codes, append_assoc}
use Rattle.std.proofs.lemmas.Result.{IfOk-weaker}
use Rattle.reg_inspection.proofs.inspection.versions_text.Goals as goal

-- the pieces, one after another
joined : (subjects live deleted ids : List ℕ)
    → codes "subjects: "
    ++ (
    subjects
    ++ (
    codes "\nlive versions: "
    ++ (live ++ (codes "\nsoft-deleted versions: " ++ (deleted ++ (codes "\nids: " ++ (ids ++ codes "\n")))))))
    ≡ codes "subjects: " ++ subjects ++ codes "\nlive versions: " ++ live
    ++ codes "\nsoft-deleted versions: " ++ deleted ++ codes "\nids: " ++ ids ++ codes "\n"
joined subjects live deleted ids = simp append_assoc

pub returns : goal.returns
returns c = IfOk-weaker c.format.result _ _ (λ s h. h ∙ joined _ _ _ _) c.format.ensures.ok
