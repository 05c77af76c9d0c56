use Rattle.std.proofs.Common.{◌≡◌, ◌⊎◌, ⊎_elim, ◌++◌, ◌∙◌, List, ℕ, codes, refl, sym, ap}
use Rattle.std.proofs.lemmas.Result.{IfOk-weaker}
use Rattle.reg_inspection.specs.Cause.{cause_text}
use Rattle.reg_inspection.specs.Obstacles.{obstacle_text}
use Rattle.reg_inspection.specs.Report.{cause_part}
use Rattle.reg_inspection.specs.declared.obstacle.Obstacle.{Obstacle}
use Rattle.reg_inspection.specs.declared.obstacle.Obstacle.TheVariants as kinds
use Rattle.reg_inspection.proofs.inspection.obstacle_line.Goals as goal

-- the pieces, one after another
joined : (obstacle cause : List ℕ) → obstacle ++ (codes ": " ++ (cause ++ codes "\n")) ≡ obstacle ++ (codes ": " ++ cause ++ codes "\n")
joined obstacle cause = refl

pub returns-in-Opaque : goal.returns-in-Opaque
returns-in-Opaque c =
    let obstacle = c.args.obstacle.now in
    let text = c.as_str-text.ensures.value ∙ c.in_ok-text.ensures in
    IfOk-weaker c.format.result _ _
    (λ s h.
    h
    ∙ joined _ _
    ∙ ap (λ (t : List ℕ). t ++ (codes ": " ++ cause_text c.in-Opaque.cause ++ codes "\n")) text
    ∙ ap (λ (part : List ℕ). obstacle_text obstacle ++ part) (ap cause_part (sym c.in-Opaque.is)))
    c.format.ensures.ok

-- nothing stands behind an obstacle without a cause
alone : (o : Obstacle) → ((id : ℕ) × (o ≡ kinds.TwoSchemas id)) ⊎ (o ≡ kinds.NumbersUsedUp) → cause_part o ≡ codes "\n"
alone o is = ⊎_elim (λ two. ap cause_part two.1) (λ numbers. ap cause_part numbers) is

pub returns : goal.returns
returns c =
    let obstacle = c.args.obstacle.now in
    let text = c.as_str-text.ensures.value ∙ c.in_ok-text.ensures in
    IfOk-weaker c.format-in-TwoSchemas.result _ _
    (λ s h.
    h
    ∙ ap (λ (t : List ℕ). t ++ codes "\n") text
    ∙ ap (λ (part : List ℕ). obstacle_text obstacle ++ part) (sym (alone obstacle c.in-TwoSchemas.is)))
    c.format-in-TwoSchemas.ensures.ok
