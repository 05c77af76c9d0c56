use Rattle.std.proofs.Common.{Some, ap, ◌∙◌}
use Rattle.reg_modes.specs.reg_fold.Entries.{entries}
use Rattle.reg_modes.specs.reg_fold.InForce.{level}
use Rattle.reg_levels.specs.RequiredPairs.{looked_at}
use Rattle.reg_lookup.specs.Checked.{olds_of}
use Rattle.reg_lookup.proofs.LookedAt.{copies_are_grounds, copies_are_read}
use Rattle.reg_lookup.proofs.checked.Grounds.of.Goals as goal

pub invariant_of-result : goal.invariant_of-result
invariant_of-result c =
    copies_are_read c.level-level.result c.in-Ok.olds.items c.looked_at.result.now _
    (c.looked_at.ensures ∙ ap (looked_at c.level-level.result) c.deref.ensures.value) c.in_ok-copy_of-in-Ok.ensures
    c.in-Ok.ensures.rising c.in-Ok.ensures.read

pub returns-in_ok-copy_of-in-Ok : goal.returns-in_ok-copy_of-in-Ok
returns-in_ok-copy_of-in-Ok c =
    copies_are_grounds c.level-level.result c.in-Ok.olds.items c.looked_at.result.now _
    (c.looked_at.ensures ∙ ap (looked_at c.level-level.result) c.deref.ensures.value) c.in_ok-copy_of-in-Ok.ensures
    (level c.args.registry.now (Some c.args.subject.now)) (olds_of (entries c.args.registry.now) c.args.subject.now c.args.which)
    c.level-level.ensures c.in-Ok.ensures.found
