use Rattle.std.proofs.Common.{◌++◌, List, sym, ap, ◌∙◌}
use Rattle.reg_records.specs.declared.record.Record.{Record}
use Rattle.reg_topic.specs.Topic.{owed_by}
use Rattle.reg_file_keep.proofs.Opened.{opened}
use Rattle.reg_file_keep.proofs.laws.opens_keep_the_file.Goals as goal

pub returns-clause-file : goal.returns-clause-file
returns-clause-file g c modelled whole base old new sound says durable keeps =
    let d = g.D.Disk in
    opened c.compactions_stand_for_logs.ensures.across c.compactions_stand_for_logs.ensures.batches d.is_modelled d.moment d.left_since
    d.may_leave d.seen d.faults g.D.Renewable.renewals d.named modelled whole old new (owed_by base.records.items base.next) sound says durable
    keeps

pub returns-clause-start : goal.returns-clause-start
returns-clause-start g c modelled base old new stands keeps =
    let d = g.D.Disk in
    let it = stands.file modelled in (
      it.0,
      it.1,
      opened c.compactions_stand_for_logs.ensures.across c.compactions_stand_for_logs.ensures.batches d.is_modelled d.moment d.left_since
          d.may_leave d.seen d.faults g.D.Renewable.renewals d.named modelled it.0 old new (owed_by base.records.items base.next) stands.sound
          it.2 (stands.durable modelled) keeps,
    )

pub returns-clause-base : goal.returns-clause-base
returns-clause-base g c whole base is_log =
    let due = owed_by base.records.items base.next in
    c.batches_add_records.ensures.records whole.reads due ∙ ap (λ (l : List Record). l ++ due) (sym is_log.records)
