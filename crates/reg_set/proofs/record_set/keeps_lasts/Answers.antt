use Rattle.std.proofs.Common.{sym, ◌∙◌}
use Rattle.std.proofs.lemmas.Bool.{false≢true}
use Rattle.reg_set.proofs.KeptLasts.{KeepsLasts-from_tests, tests-from_KeepsLasts}
use Rattle.reg_set.proofs.record_set.keeps_lasts.Goals as goal

pub returns-then-is_part_of : goal.returns-then-is_part_of
returns-then-is_part_of c =
    let C = c.args.part.now in
    let R = c.args.whole.now in (
      λ e. KeepsLasts-from_tests C R (sym c.is_part_of.ensures ∙ c.if-is_part_of.true) (sym c.has_lasts_of.ensures ∙ e),
      λ h. c.has_lasts_of.ensures ∙ (tests-from_KeepsLasts C R h).1,
    )

pub returns-else-is_part_of : goal.returns-else-is_part_of
returns-else-is_part_of c =
    let C = c.args.part.now in
    let R = c.args.whole.now in (
      λ e. absurd (false≢true (sym c.if-is_part_of.false ∙ e)),
      λ h. absurd (false≢true (sym c.if-is_part_of.false ∙ c.is_part_of.ensures ∙ (tests-from_KeepsLasts C R h).0)),
    )
