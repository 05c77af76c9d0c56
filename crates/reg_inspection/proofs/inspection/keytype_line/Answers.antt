use Rattle.std.proofs.Common.{◌≡◌, ◌++◌, ◌∙◌, List, ℕ, Option, codes, decimal, sym, ap, append_assoc}
use Rattle.std.proofs.lemmas.Result.{IfOk-weaker}
use Rattle.json.specs.Print.{quoted}
use Rattle.reg_inspection.specs.Report.{keytype_line}
use Rattle.reg_inspection.proofs.inspection.keytype_line.Goals as goal

-- the pieces, one after another
joined : (keytype n : List ℕ)
    → codes "foreign lines of keytype " ++ (keytype ++ (codes ": " ++ (n ++ codes "\n")))
    ≡ codes "foreign lines of keytype " ++ keytype ++ codes ": " ++ n ++ codes "\n"
joined keytype n = simp append_assoc

pub returns-in_ok-keytype-in-Some : goal.returns-in_ok-keytype-in-Some
returns-in_ok-keytype-in-Some c =
    let written = c.in_ok-keytype-in-Some.ensures ∙ ap quoted c.as_str.ensures in
    let line : List ℕ → List ℕ = λ q. codes "foreign lines of keytype " ++ q ++ codes ": " ++ decimal c.args.count ++ codes "\n" in
    IfOk-weaker c.format.result _ _
    (λ s h. h ∙ joined _ _ ∙ ap line written ∙ ap (λ (k : Option (List ℕ)). keytype_line k c.args.count) (sym c.in-Some.is))
    c.format.ensures.ok
