use Rattle.reg_compaction.proofs.Asides.{ended_and_read}
use Rattle.reg_compaction.proofs.opening.end_and_look.Goals as goal

pub returns-clause-any_moment : goal.returns-clause-any_moment
returns-clause-any_moment g c modelled =
    let d = g.D.Disk in
    ended_and_read d.moment d.left_since d.may_leave d.seen c.args.disk.now c.write_end.new.disk c.look.new.disk
    (c.in_ok-write_end.ensures.written modelled) (c.in_ok-write_end.ensures.durable modelled)
    (c.write_end.ensures.any_moment modelled) (c.look.ensures.any_moment modelled)
