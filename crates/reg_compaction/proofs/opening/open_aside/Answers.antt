-- Until the other disk has what stands behind, no byte is cut off.
use Rattle.std.proofs.Common.{List, ℕ, inl, inr, ⊎_elim, subst, ◌∙◌}
use Rattle.reg_journal.proofs.Moments.{weaker}
use Rattle.reg_compaction.specs.Aside.{HasAll, HasAside}
use Rattle.reg_compaction.proofs.Asides.{cut_off, has_behind, stands}
use Rattle.reg_compaction.proofs.opening.open_aside.Goals as goal

pub returns-in_err-found-clause-any_moment : goal.returns-in_err-found-clause-any_moment
returns-in_err-found-clause-any_moment g c modelled =
    let d = g.D.Disk in
    weaker d.moment d.left_since d.may_leave c.args.disk.now c.look_or_end.new.disk
    (HasAll (d.may_leave c.args.disk.now) (d.seen c.args.disk.now)) _ (c.look_or_end.ensures.any_moment modelled) (λ f has. inl has)

pub returns-in_err-found-clause-order : goal.returns-in_err-found-clause-order
returns-in_err-found-clause-order g c modelled other = inl (c.look_or_end.ensures.any_moment modelled)

pub returns-in_err-put_aside-clause-any_moment : goal.returns-in_err-put_aside-clause-any_moment
returns-in_err-put_aside-clause-any_moment g c modelled =
    let d = g.D.Disk in
    weaker d.moment d.left_since d.may_leave c.args.disk.now c.look_or_end.new.disk
    (HasAll (d.may_leave c.args.disk.now) (d.seen c.args.disk.now)) _ (c.look_or_end.ensures.any_moment modelled) (λ f has. inl has)

pub returns-in_err-put_aside-clause-order : goal.returns-in_err-put_aside-clause-order
returns-in_err-put_aside-clause-order g c modelled other = inl (c.look_or_end.ensures.any_moment modelled)

pub returns-in_err-cut_behind-clause-any_moment : goal.returns-in_err-cut_behind-clause-any_moment
returns-in_err-cut_behind-clause-any_moment g c modelled =
    let d = g.D.Disk in
    cut_off d.moment d.left_since d.may_leave d.seen c.args.disk.now c.look_or_end.new.disk c.cut_behind.new.disk
    (c.in_ok-found.ensures.same modelled).1 (c.look_or_end.ensures.any_moment modelled) (c.cut_behind.ensures.any_moment modelled)

pub returns-in_err-cut_behind-clause-order : goal.returns-in_err-cut_behind-clause-order
returns-in_err-cut_behind-clause-order g c modelled other =
    inr (has_behind c.lines_are_logs.ensures.ended (g.D.Disk.seen c.args.disk.now) (g.D.Disk.seen c.look_or_end.new.disk)
    (c.in_ok-found.ensures.bytes modelled) c.in_ok-found.found (c.in_ok-found.ensures.found modelled)
    g.A.Disk.seen g.A.Disk.may_leave c.deref.result.now c.put_aside.new.aside.disk
    c.deref.ensures.value (c.in_ok-put_aside.ensures.put other))

pub returns-clause-any_moment : goal.returns-clause-any_moment
returns-clause-any_moment g c modelled =
    let d = g.D.Disk in
    cut_off d.moment d.left_since d.may_leave d.seen c.args.disk.now c.look_or_end.new.disk c.cut_behind.new.disk
    (c.in_ok-found.ensures.same modelled).1 (c.look_or_end.ensures.any_moment modelled) (c.cut_behind.ensures.any_moment modelled)

pub returns-clause-order : goal.returns-clause-order
returns-clause-order g c modelled other =
    inr (has_behind c.lines_are_logs.ensures.ended (g.D.Disk.seen c.args.disk.now) (g.D.Disk.seen c.look_or_end.new.disk)
    (c.in_ok-found.ensures.bytes modelled) c.in_ok-found.found (c.in_ok-found.ensures.found modelled)
    g.A.Disk.seen g.A.Disk.may_leave c.deref.result.now c.put_aside.new.aside.disk
    c.deref.ensures.value (c.in_ok-put_aside.ensures.put other))

pub returns-in_err-put_aside-clause-idle : goal.returns-in_err-put_aside-clause-idle
returns-in_err-put_aside-clause-idle g c modelled =
    ⊎_elim (λ same. inl same)
    (λ some. inr (stands c.lines_are_logs.ensures.ended (g.D.Disk.seen c.args.disk.now) (g.D.Disk.seen c.look_or_end.new.disk)
    (c.in_ok-found.ensures.bytes modelled) c.in_ok-found.found (c.in_ok-found.ensures.found modelled)
    c.deref.result.now c.deref.ensures.value some))
    c.put_aside.ensures.idle

pub returns-in_err-cut_behind-clause-idle : goal.returns-in_err-cut_behind-clause-idle
returns-in_err-cut_behind-clause-idle g c modelled =
    ⊎_elim (λ same. inl same)
    (λ some. inr (stands c.lines_are_logs.ensures.ended (g.D.Disk.seen c.args.disk.now) (g.D.Disk.seen c.look_or_end.new.disk)
    (c.in_ok-found.ensures.bytes modelled) c.in_ok-found.found (c.in_ok-found.ensures.found modelled)
    c.deref.result.now c.deref.ensures.value some))
    c.put_aside.ensures.idle

pub returns-clause-idle : goal.returns-clause-idle
returns-clause-idle g c modelled =
    ⊎_elim (λ same. inl same)
    (λ some. inr (stands c.lines_are_logs.ensures.ended (g.D.Disk.seen c.args.disk.now) (g.D.Disk.seen c.look_or_end.new.disk)
    (c.in_ok-found.ensures.bytes modelled) c.in_ok-found.found (c.in_ok-found.ensures.found modelled)
    c.deref.result.now c.deref.ensures.value some))
    c.put_aside.ensures.idle

pub returns-clause-aside : goal.returns-clause-aside
returns-clause-aside g c other =
    subst (λ (b : List ℕ). HasAside g.A.Disk.seen g.A.Disk.may_leave b c.put_aside.new.aside.disk)
    c.deref.ensures.value (c.in_ok-put_aside.ensures.put other)

pub returns-clause-same : goal.returns-clause-same
returns-clause-same g c modelled =
    let first = c.in_ok-found.ensures.same modelled in
    let next = c.in_ok-cut_behind.ensures.same modelled in
    (next.0, next.1 ∙ first.1)
