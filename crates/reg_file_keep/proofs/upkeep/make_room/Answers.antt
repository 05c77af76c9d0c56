use Rattle.std.proofs.Common.{◌≡◌, ◌≤◌, ◌-◌, ℕ, inl, inr, ⊎_elim, Some, ap, subst, arith, false}
use Rattle.reg_compaction.specs.CompactedTo.{IsCompactedBy}
use Rattle.reg_file_keep.specs.declared.upkeep.Upkeep.{Upkeep}
use Rattle.reg_file_keep.proofs.Rooms.{floor_left, lost_by, moments_left, moments_same, room_left, says_same}
use Rattle.reg_file_keep.proofs.upkeep.make_room.Goals as goal

pub returns-in-Ok-clause-says : goal.returns-in-Ok-clause-says
returns-in-Ok-clause-says g c modelled goes =
    let d = g.D.Disk in
    let j = c.args.journal.now in
    let laws = c.compactions_stand_for_logs.ensures in
    let sound : j.is_broken ≡ false = cc in
    room_left d.known d.seen d.may_leave d.moment d.left_since c.lines_are_logs.ensures.ended laws.itself laws.compacted
    (Some c.min.result) j c.compact_superseded.new.journal (c.is_steady.ensures modelled sound)
    (c.compact_superseded.ensures.left modelled goes)

pub returns-in-Ok-clause-any_moment : goal.returns-in-Ok-clause-any_moment
returns-in-Ok-clause-any_moment g c modelled sound =
    let d = g.D.Disk in
    let j = c.args.journal.now in
    let laws = c.compactions_stand_for_logs.ensures in
    moments_left d.known d.seen d.may_leave d.moment d.left_since c.lines_are_logs.ensures.ended laws.itself laws.compacted
    (Some c.min.result) j c.compact_superseded.new.journal (c.is_steady.ensures modelled sound)
    (c.compact_superseded.ensures.any_moment modelled sound)

pub returns-in-Ok-clause-low : goal.returns-in-Ok-clause-low
returns-in-Ok-clause-low g c modelled goes =
    let d = g.D.Disk in
    let j = c.args.journal.now in
    let laws = c.compactions_stand_for_logs.ensures in
    let sound : j.is_broken ≡ false = cc in
    floor_left c.args.upkeep.now.floor c.min.result (d.seen j.disk) (d.seen c.compact_superseded.new.journal.disk)
    (omega (arith, c.min.ensures)) (c.compact_superseded.ensures.left modelled goes) (c.requires modelled sound)

pub returns-in-Err-clause-says : goal.returns-in-Err-clause-says
returns-in-Err-clause-says g c modelled goes =
    let d = g.D.Disk in
    let j = c.args.journal.now in
    let laws = c.compactions_stand_for_logs.ensures in
    let sound : j.is_broken ≡ false = cc in
    room_left d.known d.seen d.may_leave d.moment d.left_since c.lines_are_logs.ensures.ended laws.itself laws.compacted
    (Some c.min.result) j c.compact_superseded.new.journal (c.is_steady.ensures modelled sound)
    (c.compact_superseded.ensures.left modelled goes)

pub returns-in-Err-clause-any_moment : goal.returns-in-Err-clause-any_moment
returns-in-Err-clause-any_moment g c modelled sound =
    let d = g.D.Disk in
    let j = c.args.journal.now in
    let laws = c.compactions_stand_for_logs.ensures in
    moments_left d.known d.seen d.may_leave d.moment d.left_since c.lines_are_logs.ensures.ended laws.itself laws.compacted
    (Some c.min.result) j c.compact_superseded.new.journal (c.is_steady.ensures modelled sound)
    (c.compact_superseded.ensures.any_moment modelled sound)

pub returns-in-Err-clause-low : goal.returns-in-Err-clause-low
returns-in-Err-clause-low g c modelled goes =
    let d = g.D.Disk in
    let j = c.args.journal.now in
    let laws = c.compactions_stand_for_logs.ensures in
    let sound : j.is_broken ≡ false = cc in
    floor_left c.args.upkeep.now.floor c.min.result (d.seen j.disk) (d.seen c.compact_superseded.new.journal.disk)
    (omega (arith, c.min.ensures)) (c.compact_superseded.ensures.left modelled goes) (c.requires modelled sound)

pub returns-in_default-clause-says : goal.returns-in_default-clause-says
returns-in_default-clause-says g c modelled goes =
    let d = g.D.Disk in
    let j = c.args.journal.now in
    let laws = c.compactions_stand_for_logs.ensures in
    let sound : j.is_broken ≡ false = cc in
    says_same d.known d.seen d.may_leave d.moment d.left_since c.lines_are_logs.ensures.ended laws.itself j
    (c.is_steady.ensures modelled sound)

pub returns-in_default-clause-any_moment : goal.returns-in_default-clause-any_moment
returns-in_default-clause-any_moment g c modelled sound =
    let d = g.D.Disk in
    let j = c.args.journal.now in
    let laws = c.compactions_stand_for_logs.ensures in
    let ready = c.is_steady.ensures modelled sound in
    moments_same d.known d.seen d.may_leave d.moment d.left_since c.lines_are_logs.ensures.ended laws.itself j ready
    (λ file left. g.met.D.Disk.only_now j.disk file ready.0 left)

pub returns-then-waits-clause-says : goal.returns-then-waits-clause-says
returns-then-waits-clause-says g c modelled goes =
    let d = g.D.Disk in
    let j = c.args.journal.now in
    let laws = c.compactions_stand_for_logs.ensures in
    let sound : j.is_broken ≡ false = cc in
    says_same d.known d.seen d.may_leave d.moment d.left_since c.lines_are_logs.ensures.ended laws.itself j
    (c.is_steady.ensures modelled sound)

pub returns-then-waits-clause-any_moment : goal.returns-then-waits-clause-any_moment
returns-then-waits-clause-any_moment g c modelled sound =
    let d = g.D.Disk in
    let j = c.args.journal.now in
    let laws = c.compactions_stand_for_logs.ensures in
    let ready = c.is_steady.ensures modelled sound in
    moments_same d.known d.seen d.may_leave d.moment d.left_since c.lines_are_logs.ensures.ended laws.itself j ready
    (λ file left. g.met.D.Disk.only_now j.disk file ready.0 left)

pub returns-in-Err-clause-lost : goal.returns-in-Err-clause-lost
returns-in-Err-clause-lost g c modelled sound broken =
    let d = g.D.Disk in
    let j = c.args.journal.now in
    let laws = c.compactions_stand_for_logs.ensures in
    let e = c.compact_superseded.ensures in
    lost_by c.compact_superseded.new.journal.is_broken j.is_broken c.in-Err.error
    (λ goes. (c.in-Err.ensures.refused goes).is_broken) sound (c.in-Err.ensures.changed modelled)
    (c.in-Err.ensures.lost modelled) (c.in-Err.ensures.was_broken modelled) broken

pub returns-in-Ok-clause-tries : goal.returns-in-Ok-clause-tries
returns-in-Ok-clause-tries g c sound =
    let d = g.D.Disk in
    let j = c.args.journal.now in
    let counts = c.count.ensures in
    inr (
      c.waits.ensures.none c.if-waits.false,
      inl (record {
        patience = counts.patience;
        floor = ⊎_elim
            (λ same. inl same)
            (λ rises. inr (
              rises.0,
              λ modelled.
                  let many : c.in-Some.least ≤ j.lines - c.in-Ok.kept = omega (arith, rises.1, c.lines-before.ensures) in
                  subst (λ (n : ℕ). IsCompactedBy (Some n) (d.seen j.disk) (d.seen c.compact_superseded.new.journal.disk)) c.min.ensures
                  ((c.in-Ok.ensures.many many).compacted modelled),
            ))
            counts.floor;
        fault = counts.fault;
      }),
    )

pub returns-in-Err-clause-tries : goal.returns-in-Err-clause-tries
returns-in-Err-clause-tries g c sound =
    inr (
      c.waits.ensures.none c.if-waits.false,
      inr (record {
        error = c.in-Err.error;
        cause = λ failed. c.in-Err.ensures.failed failed;
        patience = ap (λ (u : Upkeep). u.room.patience) c.fail.ensures;
        floor = ap (λ (u : Upkeep). u.floor) c.fail.ensures;
        fault = ap (λ (u : Upkeep). u.fault) c.fail.ensures;
      }),
    )
