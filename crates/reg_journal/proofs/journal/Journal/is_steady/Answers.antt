use Rattle.std.proofs.Common.{subst}
use Rattle.reg_journal.specs.Journal.{IsReady}
use Rattle.reg_journal.specs.JournalState.{JournalState}
use Rattle.reg_journal.proofs.journal.Journal.is_steady.Goals as goal

pub returns : goal.returns
returns g c modelled =
    subst (λ (j : JournalState g.row.D.Denot). IsReady g.D.Disk.known g.D.Disk.seen g.D.Disk.may_leave j)
    c.self.view_is (c.self.invariant modelled)
