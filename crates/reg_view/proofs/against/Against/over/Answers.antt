use Rattle.std.proofs.Common.{Some, map, sym, ap, subst, ◌∙◌}
use Rattle.reg_fold.specs.InForce.{level}
use Rattle.reg_fold.specs.Standing.{live}
use Rattle.reg_judge.proofs.LookedAt.{looked_at-read}
use Rattle.reg_levels.specs.Judgement.{first_unread}
use Rattle.reg_levels.specs.RequiredPairs.{HasRisingVersions, looked_at}
use Rattle.reg_entries.specs.Sought.{texts_of}
use Rattle.reg_view.proofs.Matters.{stands, texts_looked_at, texts_rise}
use Rattle.reg_view.proofs.against.Against.over.Goals as goal

pub invariant_of-result : goal.invariant_of-result
invariant_of-result c =
    let rs = c.args.registry.now in
    let s = c.args.subject.now in
    let l = c.level-level.result in
    let found = c.in_ok-looked_at.looked_at.items in
    let same = c.in_ok-olds.ensures ∙ ap (λ es. texts_of (map (λ e. e.now) es)) c.deref.ensures.value in
    let live_ones =
    same
    ∙ ap texts_of (c.in_ok-looked_at.ensures.all ∙ ap (λ subject. looked_at l (live rs subject)) c.as_str-2.ensures)
    ∙ texts_looked_at l (live rs s) in (
      subst HasRisingVersions (sym same) (texts_rise (map (λ e. e.now) found) c.in_ok-looked_at.ensures.in_order),
      ap first_unread live_ones ∙ looked_at-read l (texts_of (live rs s)) (c.live_versions_are_read.ensures rs s),
    )

pub returns : goal.returns
returns c =
    let rs = c.args.registry.now in
    let s = c.args.subject.now in
    let l = c.level-level.result in
    let at_level = c.level-level.ensures ∙ ap (λ subject. level rs (Some subject)) c.as_str.ensures in
    stands l (level rs (Some s)) _ (looked_at (level rs (Some s)) (texts_of (live rs s))) at_level
    (c.in_ok-olds.ensures
    ∙ ap (λ es. texts_of (map (λ e. e.now) es)) c.deref.ensures.value
    ∙ ap texts_of (c.in_ok-looked_at.ensures.all ∙ ap (λ subject. looked_at l (live rs subject)) c.as_str-2.ensures)
    ∙ texts_looked_at l (live rs s)
    ∙ ap (λ m. looked_at m (texts_of (live rs s))) at_level)
