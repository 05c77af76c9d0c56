use Rattle.std.proofs.Common.{◌∙◌, subst}
use Rattle.reg_compaction.specs.Sorted.{Reorders}
use Rattle.reg_compaction.proofs.sorting.in_order.Goals as goal

pub returns-in-Some : goal.returns-in-Some
returns-in-Some c front lines floor read parts says say =
    let all = c.in_ok-sorted.ensures front lines floor read (c.deref.ensures.value ∙ parts) says say in rw c.in-Some.is at all

pub returns-in-None : goal.returns-in-None
returns-in-None c front lines floor read parts says say =
    let all = c.in_ok-sorted.ensures front lines floor read (c.deref.ensures.value ∙ parts) says say in
    subst (Reorders front lines) c.deref.ensures.value (rw c.in-None.is at all)
