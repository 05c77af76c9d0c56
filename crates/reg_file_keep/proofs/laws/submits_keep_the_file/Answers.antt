use Rattle.reg_file_keep.proofs.Submitted.{submitted}
use Rattle.reg_file_keep.proofs.laws.submits_keep_the_file.Goals as goal

pub returns : goal.returns
returns g c modelled first base since old new command reply submits says =
    let d = g.D.Disk in
    submitted c.compactions_stand_for_logs.ensures.across c.compactions_stand_for_logs.ensures.batches d.is_modelled d.moment
    d.left_since d.may_leave d.seen d.faults g.D.Renewable.renewals d.named modelled first base since old new command reply submits says
