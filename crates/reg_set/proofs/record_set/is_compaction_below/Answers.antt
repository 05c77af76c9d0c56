use Rattle.std.proofs.Common.{sym, ◌∙◌}
use Rattle.std.proofs.lemmas.Bool.{false≢true}
use Rattle.reg_set.proofs.Gone.{IsCompactionBelow-from_tests, tests-from_IsCompactionBelow}
use Rattle.reg_set.proofs.record_set.is_compaction_below.Goals as goal

pub returns-then-is_part_of : goal.returns-then-is_part_of
returns-then-is_part_of c =
    let C = c.args.compaction.now in
    let R = c.args.whole.now in (
      λ e.
          IsCompactionBelow-from_tests c.args.floor C R
          (sym c.is_part_of.ensures ∙ c.if-is_part_of.true) (sym c.has_lasts_below.ensures ∙ e),
      λ h. c.has_lasts_below.ensures ∙ (tests-from_IsCompactionBelow c.args.floor C R h).1,
    )

pub returns-else-is_part_of : goal.returns-else-is_part_of
returns-else-is_part_of c =
    let C = c.args.compaction.now in
    let R = c.args.whole.now in (
      λ e. absurd (false≢true (sym c.if-is_part_of.false ∙ e)),
      λ h. absurd (false≢true (sym c.if-is_part_of.false ∙ c.is_part_of.ensures ∙ (tests-from_IsCompactionBelow c.args.floor C R h).0)),
    )
