use Rattle.std.proofs.Common.{◌≡◌, ◌++◌, ◌∙◌, List, ℕ, codes, decimal, ap, append_assoc}
use Rattle.std.proofs.lemmas.Result.{IfOk-weaker}
use Rattle.reg_inspection.proofs.obstacle.opaque_text.Goals as goal

-- the pieces, one after another
joined : (offset subject version : List ℕ)
    → codes "opaque record at " ++ (offset ++ (codes ": subject " ++ (subject ++ (codes ", version " ++ version))))
    ≡ codes "opaque record at " ++ offset ++ codes ": subject " ++ subject ++ codes ", version " ++ version
joined offset subject version = simp append_assoc

pub returns : goal.returns
returns c =
    let text : List ℕ → List ℕ = λ subject.
    codes "opaque record at " ++ decimal c.args.offset ++ codes ": subject "
    ++ subject ++ codes ", version " ++ decimal c.args.version in
    IfOk-weaker c.format.result _ _ (λ s h. h ∙ joined _ _ _ ∙ ap text c.in_ok-subject.ensures) c.format.ensures.ok
