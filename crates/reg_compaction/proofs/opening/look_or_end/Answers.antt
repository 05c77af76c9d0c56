use Rattle.std.proofs.Common.{inl, subst}
use Rattle.reg_journal.proofs.Moments.{weaker}
use Rattle.reg_journal.specs.Found.{LeavesFile}
use Rattle.reg_journal.specs.declared.opening.JournalOpenError.{JournalOpenError}
use Rattle.reg_compaction.specs.Aside.{HasAll}
use Rattle.reg_compaction.proofs.Asides.{read_and_ended}
use Rattle.reg_compaction.proofs.opening.look_or_end.Goals as goal

pub returns-in-Err-NoEmptyLine-clause-any_moment : goal.returns-in-Err-NoEmptyLine-clause-any_moment
returns-in-Err-NoEmptyLine-clause-any_moment g c modelled =
    let d = g.D.Disk in
    read_and_ended d.moment d.left_since d.may_leave d.seen c.args.disk.now c.look.new.disk c.end_and_look.new.disk
    (subst (λ (e : JournalOpenError). LeavesFile d.known d.seen c.args.disk.now c.look.new.disk e) c.in-Err-NoEmptyLine.field-0-is
    (c.in-Err-NoEmptyLine.ensures.untouched modelled)).1 (c.look.ensures.any_moment modelled) (c.end_and_look.ensures.any_moment modelled)

pub returns-in_default-clause-any_moment : goal.returns-in_default-clause-any_moment
returns-in_default-clause-any_moment g c modelled =
    let d = g.D.Disk in
    weaker d.moment d.left_since d.may_leave c.args.disk.now c.look.new.disk (d.may_leave c.args.disk.now)
    (HasAll (d.may_leave c.args.disk.now) (d.seen c.args.disk.now)) (c.look.ensures.any_moment modelled) (λ f left. inl left)
