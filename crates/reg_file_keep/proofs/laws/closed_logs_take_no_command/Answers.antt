use Rattle.reg_file_keep.specs.Keeping.{KeepsFile}
use Rattle.reg_file_keep.proofs.Logs.{submits_closed}
use Rattle.reg_file_keep.proofs.laws.closed_logs_take_no_command.Goals as goal

pub returns : goal.returns
returns g c base since old new command reply closed did =
    let d = g.D.Disk in
    submits_closed (KeepsFile d.is_modelled d.moment d.left_since d.may_leave d.seen d.faults g.D.Renewable.renewals d.named) base since old
    new command reply closed did
