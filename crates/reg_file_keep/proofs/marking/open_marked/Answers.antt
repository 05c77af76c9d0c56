use Rattle.std.proofs.Common.{◌≡◌, ap, ◌∙◌}
use Rattle.reg_journal.specs.JournalState.{JournalState}
use Rattle.reg_journal.specs.Lines.{said}
use Rattle.reg_file_keep.proofs.WithMark.{start_caused}
use Rattle.reg_file_keep.proofs.marking.open_marked.Goals as goal

pub returns-clause-cause : goal.returns-clause-cause
returns-clause-cause g c modelled =
    let d = g.D.Disk in
    let same : said (d.seen c.over.result.disk) ≡ said (d.seen c.args.disk) =
    ap (λ (j : JournalState g.row.D.Denot). said (d.seen j.disk)) c.over.ensures ∙ (c.in-Ok.ensures.same modelled).1 in
    start_caused d.is_modelled d.known d.seen d.may_leave d.faults d.named g.D.Renewable.renewals _ c.args.disk c.over.result.disk _ same
    (c.append_lacked.ensures.cause modelled)
