use Rattle.reg_file_keep.specs.Keeping.{KeepsFile}
use Rattle.reg_file_keep.proofs.Logs.{opens, submits}
use Rattle.reg_file_keep.proofs.laws.open_logs_keep_as_files.Goals as goal

pub returns-clause-opens : goal.returns-clause-opens
returns-clause-opens g c old due new did =
    let d = g.D.Disk in
    opens (KeepsFile d.is_modelled d.moment d.left_since d.may_leave d.seen d.faults g.D.Renewable.renewals d.named) old due new did

pub returns-clause-submits : goal.returns-clause-submits
returns-clause-submits g c base since old new command reply before is_open did =
    let d = g.D.Disk in
    submits (KeepsFile d.is_modelled d.moment d.left_since d.may_leave d.seen d.faults g.D.Renewable.renewals d.named) base since old new
    command reply before is_open did
