-- A batch is appended once there is room, or nothing is done.
use Rattle.std.proofs.Common.{◌≡◌, ◌≤◌, inl, inr, false, refl, sym, ap, subst, ◌∙◌, arith, true≢false}
use Rattle.reg_journal.specs.Lines.{said}
use Rattle.reg_journal.specs.Refusals.{HasCause, is_refusal}
use Rattle.reg_pen.specs.declared.keep.Kept.{Kept}
use Rattle.reg_pen.specs.declared.keep.Kept.TheVariants.{Taken, Declined}
use Rattle.reg_pen.specs.declared.keep.Lack.TheVariants as lacks
use Rattle.reg_file_keep.specs.KeepState.{KeepState}
use Rattle.reg_file_keep.specs.Keeping.{KeepsFile, kept_of}
use Rattle.reg_file_keep.specs.Next.{next_behind}
use Rattle.reg_file_keep.specs.Upkeep.{state_of}
use Rattle.reg_file_keep.specs.declared.upkeep.Upkeep.{Upkeep}
use Rattle.reg_file_keep.proofs.Rooms.{at_any_moment, counts_same, ends_refused, error_of, floor_behind}
use Rattle.reg_file_keep.proofs.Rooms.{floor_up, from_floor, leaves_same, not_taken, reason_of}
use Rattle.reg_file_keep.proofs.Rooms.{says_same, sound_of, stays_refused}
use Rattle.reg_file_keep.proofs.keeping.FileKeepKeep.keep.Goals as goal

pub returns-then-not-can_stand : goal.returns-then-not-can_stand
returns-then-not-can_stand g c =
    let d = g.D.Disk in
    let old = c.self.inside.journal in
    let was = c.self.inside.upkeep in
    let batch = c.args.batch.now in
    let sound : old.is_broken ≡ false = cc in
    let laws = c.compactions_stand_for_logs.ensures in
    subst (λ (k : KeepState g.row.D.Denot). KeepsFile d.is_modelled d.moment d.left_since d.may_leave d.seen d.faults g.D.Renewable.renewals d.named k batch (Declined lacks.Numbers) k) c.self.view_is
    (record {
      ends = (
        sound,
        λ modelled.
            says_same d.known d.seen d.may_leave d.moment d.left_since c.lines_are_logs.ensures.ended laws.itself old
            (c.is_steady.ensures modelled sound),
      );
      durable = λ modelled goes. (c.is_steady.ensures modelled sound).1.durable;
      any_moment =
          λ modelled whole.
          leaves_same d.known d.seen d.may_leave d.moment d.left_since c.lines_are_logs.ensures.ended laws.itself old
          (c.is_steady.ensures modelled sound) batch
          (λ file left. g.met.D.Disk.only_now old.disk file (c.is_steady.ensures modelled sound).0 left);
      broken = λ is. absurd (true≢false (sym is ∙ sound));
      has_name = λ modelled is. let none : ⊥ = cc in absurd none;
      reason = inl (λ both. let t = c.can_stand.ensures.1 both in cc);
      counts = refl;
      stays = c.self.invariant;
      tries = inl refl;
    })

pub invariant_of-self : goal.invariant_of-self
invariant_of-self g c modelled goes_on =
    let d = g.D.Disk in
    let mid = c.make_room.new.journal in
    let new = c.append.new.self in
    let floor = c.self.inside.upkeep.floor in
    let sound : mid.is_broken ≡ false = sound_of mid.is_broken c.append.result _ c.in-Ok.is (λ is. (c.append.ensures.broken is).0) in
    let most : floor ≤ c.append-in-Ok.new.self.floor =
    omega (arith, c.make_room.ensures.rises, ap (λ (u : Upkeep). u.floor) c.append-in-Ok.ensures) in
    floor_up floor c.append-in-Ok.new.self.floor (said (d.seen new.disk)) most
    (floor_behind floor c.args.batch.now (said (d.seen mid.disk)) (said (d.seen new.disk))
    (c.in-Ok.ensures.acknowledged modelled) (c.make_room.ensures.low modelled sound))

pub returns-in-Ok : goal.returns-in-Ok
returns-in-Ok g c =
    let d = g.D.Disk in
    let old = c.self.inside.journal in
    let was = c.self.inside.upkeep in
    let batch = c.args.batch.now in
    let sound : old.is_broken ≡ false = cc in
    let mid = c.make_room.new.journal in
    let has = c.make_room.new.upkeep in
    let new = c.append.new.self in
    let then = c.append-in-Ok.new.self in
    let room = c.make_room.ensures in
    let mid_sound : mid.is_broken ≡ false = sound_of mid.is_broken c.append.result _ c.in-Ok.is (λ is. (c.append.ensures.broken is).0) in
    let can = c.can_stand.ensures.0 c.if-not-can_stand.false in
    subst (λ (k : KeepState g.row.D.Denot). KeepsFile d.is_modelled d.moment d.left_since d.may_leave d.seen d.faults g.D.Renewable.renewals d.named k batch Taken (state_of new then)) c.self.view_is
    (record {
      ends = (
        c.in-Ok.ensures.goes_on,
        λ modelled. (
          said (d.seen mid.disk),
          room.says modelled mid_sound,
          from_floor was.floor batch (said (d.seen mid.disk)) can.1 (room.low modelled mid_sound),
          c.in-Ok.ensures.acknowledged modelled,
        ),
      );
      durable = λ modelled goes. (c.is_steady-in-Ok.ensures modelled goes).1.durable;
      any_moment =
          λ modelled whole.
          at_any_moment d.moment d.left_since d.may_leave d.seen old mid new batch
          (room.any_moment modelled whole) (room.says modelled) (c.append.ensures.any_moment modelled)
          (λ is. (c.append.ensures.broken is).1);
      broken = λ is. absurd (true≢false (sym is ∙ sound));
      has_name = λ modelled is. c.in-Ok.ensures.named modelled;
      reason = tt;
      counts = ap (λ (u : Upkeep). u.next) c.append-in-Ok.ensures ∙ ap (λ n. next_behind n batch) room.next;
      stays =
          λ modelled goes.
          floor_behind was.floor batch (said (d.seen mid.disk)) (said (d.seen new.disk))
          (c.in-Ok.ensures.acknowledged modelled) (room.low modelled mid_sound);
      tries = inr (
        state_of mid has,
        record {
          says = room.says;
          low = room.low;
          still = room.still;
          next = room.next;
          tries = room.tries sound;
          lost = room.lost;
        },
        record {
          patience = ap (λ (u : Upkeep). u.room.patience) c.append-in-Ok.ensures;
          floor = ap (λ (u : Upkeep). u.floor) c.append-in-Ok.ensures;
          fault = ap (λ (u : Upkeep). u.fault) c.append-in-Ok.ensures;
        },
      );
    })

pub returns-in-Err : goal.returns-in-Err
returns-in-Err g c =
    let d = g.D.Disk in
    let old = c.self.inside.journal in
    let was = c.self.inside.upkeep in
    let batch = c.args.batch.now in
    let sound : old.is_broken ≡ false = cc in
    let mid = c.make_room.new.journal in
    let has = c.make_room.new.upkeep in
    let new = c.append.new.self in
    let error = c.in-Err.error in
    let room = c.make_room.ensures in
    let kept : KeepsFile d.is_modelled d.moment d.left_since d.may_leave d.seen d.faults g.D.Renewable.renewals d.named (state_of old was) batch (kept_of error) (state_of new has) =
    record {
      ends = ends_refused d.moment d.left_since d.may_leave d.seen old mid new batch d.is_modelled
          error room.says c.in-Err.ensures.refused c.in-Err.ensures.then_broken
          (λ is. error_of c.append.result error c.in-Err.is (c.append.ensures.broken is).0);
      durable = λ modelled goes. (c.is_steady-in-Err.ensures modelled goes).1.durable;
      any_moment =
          λ modelled whole.
          at_any_moment d.moment d.left_since d.may_leave d.seen old mid new batch
          (room.any_moment modelled whole) (room.says modelled) (c.append.ensures.any_moment modelled)
          (λ is. (c.append.ensures.broken is).1);
      broken = λ is. absurd (true≢false (sym is ∙ sound));
      has_name = λ modelled is. absurd (not_taken error is);
      reason = reason_of d.is_modelled d.faults g.D.Renewable.renewals d.named (state_of old was) (state_of mid has) (state_of new has) batch error
          (subst (λ n. HasCause d.is_modelled d.faults d.named mid batch n error new) c.free_behind-free.ensures c.in-Err.ensures.cause)
          c.in-Err.ensures.refused (λ is. (c.append.ensures.broken is).1)
          (λ modelled is. room.lost modelled sound is);
      counts = room.next ∙ counts_same d.is_modelled d.faults g.D.Renewable.renewals d.named (state_of old was) (state_of mid has) (state_of new has)
          batch error was.next;
      stays =
          λ modelled.
          stays_refused d.seen was.floor mid new (is_refusal error) c.in-Err.ensures.refused c.in-Err.ensures.then_broken
          (room.low modelled);
      tries = inr (
        state_of mid has,
        record {
          says = room.says;
          low = room.low;
          still = room.still;
          next = room.next;
          tries = room.tries sound;
          lost = room.lost;
        },
        record { patience = refl; floor = refl; fault = refl },
      );
    } in
    subst (λ (k : KeepState g.row.D.Denot). KeepsFile d.is_modelled d.moment d.left_since d.may_leave d.seen d.faults g.D.Renewable.renewals d.named k batch c.kept_of.result (state_of new has)) c.self.view_is
    (subst (λ (k : Kept). KeepsFile d.is_modelled d.moment d.left_since d.may_leave d.seen d.faults g.D.Renewable.renewals d.named (state_of old was) batch k (state_of new has)) (sym c.kept_of.ensures) kept)
