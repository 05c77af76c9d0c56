use Rattle.std.proofs.Common.{◌≡◌, inr, ℕ, Result, true, false, refl, sym, ap, subst, ◌∙◌}
use Rattle.reg_journal.specs.Disk.{GaveFault, LeavesOnly, Only}
use Rattle.reg_journal.specs.Journal.{IsReady}
use Rattle.reg_journal.specs.JournalState.{JournalState}
use Rattle.reg_journal.specs.Lines.{Said, said}
use Rattle.reg_compaction.specs.Said.{SaysCompaction}
use Rattle.reg_pen.specs.KeptState.{KeptState}
use Rattle.reg_records.specs.declared.log.LogFault.{LogFault}
use Rattle.reg_file_keep.specs.KeepState.{KeepState}
use Rattle.reg_file_keep.specs.LogKeep.{IsOpen}
use Rattle.reg_file_keep.specs.declared.log_keep.LogKeep.{LogKeep}
use Rattle.reg_file_keep.specs.Marked.{MarkCovers, marked}
use Rattle.reg_file_keep.specs.Starting.{LosesNothing}
use Rattle.reg_file_keep.proofs.Starts.{kept_from, low_floor, moments_from, moments_of_failure}
use Rattle.reg_file_keep.proofs.starting.start_file_keep.Goals as goal

pub new-keep-requires-clause-floor : goal.new-keep-requires-clause-floor
new-keep-requires-clause-floor g c modelled =
    let mid = c.in-Ok.opened.journal.disk in
    let told = c.in-Ok.ensures.log modelled in
    let same = c.in-Ok.ensures.said modelled in
    low_floor g.D.Disk.seen c.args.disk mid same told.0 told.1 c.in-Ok.opened.log c.in-Ok.opened.journal refl told.2

pub new-kept-requires : goal.new-kept-requires
new-kept-requires g c =
    let d = g.D.Disk in
    let disk = c.args.disk in
    let mid = c.in-Ok.opened.journal.disk in
    let a = c.new-keep.result in
    let b = c.make_room.new.self in
    let at : a.journal.disk ≡ mid =
    ap (λ (k : KeepState g.row.D.Denot). k.journal.disk) c.new-keep.ensures in
    let sound : a.journal.is_broken ≡ false =
    ap (λ (k : KeepState g.row.D.Denot). k.journal.is_broken) c.new-keep.ensures ∙ c.in-Ok.ensures.sound in
    let goes : b.journal.is_broken ≡ false = cc in
    record {
      sound = goes;
      next = (c.make_room.ensures.room sound).next ∙ ap (λ (k : KeepState g.row.D.Denot). k.next) c.new-keep.ensures;
      file = λ modelled.
          let told = c.in-Ok.ensures.log modelled in
          let same = c.in-Ok.ensures.said modelled in
          let kept = kept_from d.seen disk mid same told.0 told.1 a b at ((c.make_room.ensures.room sound).says modelled goes) in (
            told.0,
            told.2,
            subst (λ (f : Result Said (ℕ × LogFault)). SaysCompaction f (said (d.seen b.journal.disk))) told.1 kept,
          );
      durable = λ modelled.
          (subst (λ (j : JournalState g.row.D.Denot). IsReady d.known d.seen d.may_leave j) c.journal-2.ensures
          (c.is_steady.ensures modelled) goes).1.durable;
    }

pub returns-clause-kept : goal.returns-clause-kept
returns-clause-kept g c modelled =
    let d = g.D.Disk in
    let disk = c.args.disk in
    let mid = c.in-Ok.opened.journal.disk in
    let a = c.new-keep.result in
    let b = c.make_room.new.self in
    let told = c.in-Ok.ensures.log modelled in
    let same = c.in-Ok.ensures.said modelled in
    let at : a.journal.disk ≡ mid =
    ap (λ (k : KeepState g.row.D.Denot). k.journal.disk) c.new-keep.ensures in
    let sound : a.journal.is_broken ≡ false =
    ap (λ (k : KeepState g.row.D.Denot). k.journal.is_broken) c.new-keep.ensures ∙ c.in-Ok.ensures.sound in
    let goes : b.journal.is_broken ≡ false = cc in
    subst (λ (k : KeptState (LogKeep g.row.D.Denot)). IsOpen k.keep (λ keep. SaysCompaction (marked (said (d.seen disk))) (said (d.seen keep.journal.disk))))
    (sym c.new-kept.ensures)
    (kept_from d.seen disk mid same told.0 told.1 a b at ((c.make_room.ensures.room sound).says modelled goes))

pub returns-clause-next : goal.returns-clause-next
returns-clause-next g c =
    let a = c.new-keep.result in
    let b = c.make_room.new.self in
    let sound : a.journal.is_broken ≡ false =
    ap (λ (k : KeepState g.row.D.Denot). k.journal.is_broken) c.new-keep.ensures ∙ c.in-Ok.ensures.sound in
    subst (λ (k : KeptState (LogKeep g.row.D.Denot)). IsOpen k.keep (λ keep. keep.next ≡ k.log.next)) (sym c.new-kept.ensures)
    ((c.make_room.ensures.room sound).next ∙ ap (λ (k : KeepState g.row.D.Denot). k.next) c.new-keep.ensures)

pub returns-clause-any_moment : goal.returns-clause-any_moment
returns-clause-any_moment g c modelled =
    let d = g.D.Disk in
    let disk = c.args.disk in
    let mid = c.in-Ok.opened.journal.disk in
    let a = c.new-keep.result in
    let b = c.make_room.new.self in
    let told = c.in-Ok.ensures.log modelled in
    let same = c.in-Ok.ensures.said modelled in
    let at : a.journal.disk ≡ mid =
    ap (λ (k : KeepState g.row.D.Denot). k.journal.disk) c.new-keep.ensures in
    let sound : a.journal.is_broken ≡ false =
    ap (λ (k : KeepState g.row.D.Denot). k.journal.is_broken) c.new-keep.ensures ∙ c.in-Ok.ensures.sound in
    subst (λ (k : KeptState (LogKeep g.row.D.Denot)). IsOpen k.keep (λ keep. LeavesOnly d.moment d.left_since d.may_leave disk keep.journal.disk
    (LosesNothing (d.may_leave disk) (d.seen disk)))) (sym c.new-kept.ensures)
    (moments_from d.seen disk mid same told.0 told.1 d.moment d.left_since d.may_leave c.compactions_stand_for_logs.ensures.itself a b at
    (c.in-Ok.ensures.any_moment modelled) (c.make_room.ensures.any_moment modelled sound))

pub returns-clause-durable : goal.returns-clause-durable
returns-clause-durable g c modelled =
    let d = g.D.Disk in
    let b = c.make_room.new.self in
    let goes : b.journal.is_broken ≡ false = cc in
    subst (λ (k : KeptState (LogKeep g.row.D.Denot)). IsOpen k.keep (λ keep. Only (d.seen keep.journal.disk) (d.may_leave keep.journal.disk)))
    (sym c.new-kept.ensures)
    (subst (λ (j : JournalState g.row.D.Denot). IsReady d.known d.seen d.may_leave j) c.journal-2.ensures
    (c.is_steady.ensures modelled) goes).1.durable

pub returns-then-is_broken-clause-left : goal.returns-then-is_broken-clause-left
returns-then-is_broken-clause-left g c modelled =
    let d = g.D.Disk in
    let disk = c.args.disk in
    let mid = c.in-Ok.opened.journal.disk in
    let a = c.new-keep.result in
    let b = c.make_room.new.self in
    let told = c.in-Ok.ensures.log modelled in
    let same = c.in-Ok.ensures.said modelled in
    let at : a.journal.disk ≡ mid =
    ap (λ (k : KeepState g.row.D.Denot). k.journal.disk) c.new-keep.ensures in
    let sound : a.journal.is_broken ≡ false =
    ap (λ (k : KeepState g.row.D.Denot). k.journal.is_broken) c.new-keep.ensures ∙ c.in-Ok.ensures.sound in
    subst (λ (x : g.row.D.Denot). LeavesOnly d.moment d.left_since d.may_leave disk x (LosesNothing (d.may_leave disk) (d.seen disk)))
    (sym c.into_disk.ensures)
    (moments_from d.seen disk mid same told.0 told.1 d.moment d.left_since d.may_leave c.compactions_stand_for_logs.ensures.itself a b at
    (c.in-Ok.ensures.any_moment modelled) (c.make_room.ensures.any_moment modelled sound))

pub returns-clause-covers : goal.returns-clause-covers
returns-clause-covers g c modelled =
    let outcome = said (g.D.Disk.seen c.args.disk) in
    subst (λ (k : KeptState (LogKeep g.row.D.Denot)). MarkCovers outcome k.log) (sym c.new-kept.ensures)
    (c.marks_cover_ids.ensures outcome c.in-Ok.opened.log (c.in-Ok.ensures.log modelled))

pub returns-then-is_broken-clause-cause : goal.returns-then-is_broken-clause-cause
returns-then-is_broken-clause-cause g c modelled =
    let a = c.new-keep.result in
    let b = c.make_room.new.self in
    let sound : a.journal.is_broken ≡ false =
    ap (λ (k : KeepState g.row.D.Denot). k.journal.is_broken) c.new-keep.ensures ∙ c.in-Ok.ensures.sound in
    let broken : b.journal.is_broken ≡ true = cc in (
      tt,
      λ _. inr (inr (subst (λ (x : g.row.D.Denot). GaveFault g.D.Renewable.renewals x) (sym c.into_disk.ensures)
          ((c.make_room.ensures.room sound).lost modelled sound broken))),
    )

pub returns-in-Err-clause-left : goal.returns-in-Err-clause-left
returns-in-Err-clause-left g c modelled =
    let d = g.D.Disk in
    moments_of_failure d.seen c.args.disk c.in-Err.fault.disk d.moment d.left_since d.may_leave
    c.compactions_stand_for_logs.ensures.itself (c.in-Err.ensures.left modelled)
