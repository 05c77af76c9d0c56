-- Merging.
use Rattle.std.proofs.Common.{◌≡◌, sym, ap, subst}
use Rattle.reg_alike.specs.reg_floored.Floored.{Floored}
use Rattle.reg_alike.specs.reg_floored.Floors.{merged}
use Rattle.reg_alike.specs.reg_floored.Laws.{CompactionsUnite, MergingIsAssociative, MergingIsCommutative, MergingIsIdempotent}
use Rattle.reg_alike.specs.AnswerAlike.{CompactionsAnswerAlike}
use Rattle.reg_alike.specs.reg_lookup.Answers.{IsAnswerOver}
use Rattle.reg_world.specs.Headline.{AnswerAlike, Merging}

alike : (R S : Floored) → R ≡ S → AnswerAlike R S
alike R S e query answer =
    (subst (λ (x : Floored). IsAnswerOver x.records query answer) e, subst (λ (x : Floored). IsAnswerOver x.records query answer) (sym e))

pub merging : MergingIsCommutative → MergingIsAssociative → MergingIsIdempotent → CompactionsUnite → CompactionsAnswerAlike → Merging
merging commutes associates repeats unite answer_alike = record {
  commutative = commutes;
  associative = associates;
  idempotent = repeats;
  answers_commute = λ R S one_floor. alike (merged R S) (merged S R) (commutes R S one_floor);
  answers_associate = λ R S T. alike (merged (merged R S) T) (merged R (merged S T)) (associates R S T);
  answers_repeat = λ R. alike (merged R R) R (repeats R);
  compactions = λ C R D S one_floor same c d. answer_alike _ _ (unite C R D S one_floor same c d);
}
