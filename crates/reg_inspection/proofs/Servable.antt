-- Nothing is found exactly where a topic can begin with the log.
use Rattle.std.proofs.Common.{◌≡◌, ℕ, true, false, List, [], ◌∷◌, length, refl, sym, ◌∙◌, arith}
use Rattle.std.proofs.lemmas.Bool.Decides.{nat_tests}
use Rattle.std.specs.Prelude.{nat_eq}
use Rattle.reg_fold.specs.reg_set.Records.{Records}
use Rattle.reg_inspection.specs.Obstacles.{NoObstacleIsOpen, can_begin, obstacles}
use Rattle.reg_inspection.specs.declared.obstacle.Obstacle.{Obstacle}

some_length : (o : Obstacle) (os : List Obstacle) → nat_eq (length (o ∷ os)) 0 ≡ false
some_length o os = grind (arith, nat_tests)

one_nothing : (o : Obstacle) (os : List Obstacle) → o ∷ os ≡ [] → ⊥
one_nothing o os e = absurd (cc)

pub servable_without_obstacles : NoObstacleIsOpen → (rs : Records) (next : ℕ) (os : List Obstacle)
    → os ≡ obstacles rs next → nat_eq (length os) 0 ≡ can_begin rs next
servable_without_obstacles law rs next [] is = sym ((law rs next).0 (sym is))
servable_without_obstacles law rs next (o ∷ os) is =
    elim (can_begin rs next) as (λ b. can_begin rs next ≡ b → nat_eq (length (o ∷ os)) 0 ≡ b) [
      | true ↦ λ e. absurd (one_nothing o os (is ∙ (law rs next).1 e))
      | false ↦ λ e. some_length o os
    ] refl
