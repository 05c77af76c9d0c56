-- A new file is a compaction of the one that is read.
use Rattle.std.proofs.Common.{◌≡◌, ℕ, List, inl, inr, sym, ap, subst, ◌∙◌, false}
use Rattle.reg_journal.proofs.Moments.{weaker}
use Rattle.reg_journal.specs.Journal.{IsEndedLog}
use Rattle.reg_journal.specs.JournalState.{JournalState}
use Rattle.reg_journal.specs.Lines.{said}
use Rattle.reg_compaction.specs.CompactedTo.{IsCompactedBy}
use Rattle.reg_compaction.specs.InPlace.{IsBeforeOrCompacted}
use Rattle.reg_compaction.proofs.Shrinks.{ended_log, has_kept, never_broken, never_lost, no_renewal_broken, not_changed, renewed, whole}
use Rattle.reg_compaction.proofs.in_place.compact_superseded.Goals as goal

pub returns-in-Err-clause-any_moment : goal.returns-in-Err-clause-any_moment
returns-in-Err-clause-any_moment g c modelled sound =
    let j = c.args.journal.now in
    let seen = g.D.Disk.seen in
    let may = g.D.Disk.may_leave in
    let m = g.D.Disk.moment in
    let l = g.D.Disk.left_since in
    weaker m l may j.disk c.read_shrunk.new.journal.disk (λ f. f ≡ seen j.disk) (IsBeforeOrCompacted c.args.floor (seen j.disk))
    (c.read_shrunk.ensures.any_moment modelled) (λ f was. inl (ap said was))

pub returns-in-Err-clause-left : goal.returns-in-Err-clause-left
returns-in-Err-clause-left g c modelled goes =
    let j = c.args.journal.now in
    let seen = g.D.Disk.seen in
    let may = g.D.Disk.may_leave in
    let m = g.D.Disk.moment in
    let l = g.D.Disk.left_since in
    inl (ap said (c.read_shrunk.ensures.seen modelled))

pub returns-in-Err-clause-changed : goal.returns-in-Err-clause-changed
returns-in-Err-clause-changed g c modelled =
    let j = c.args.journal.now in
    let seen = g.D.Disk.seen in
    let may = g.D.Disk.may_leave in
    let m = g.D.Disk.moment in
    let l = g.D.Disk.left_since in
    let sound : j.is_broken ≡ false = cc in
    let laws = c.lines_are_logs.ensures in
    let s = (c.is_steady.ensures modelled sound).1 in
    not_changed laws.read laws.ended seen may j.disk j.end j.lines s c.in-Err.error (c.in-Err.ensures.refused modelled)

pub returns-in-Err-clause-lost : goal.returns-in-Err-clause-lost
returns-in-Err-clause-lost g c modelled lost =
    let j = c.args.journal.now in
    let seen = g.D.Disk.seen in
    let may = g.D.Disk.may_leave in
    let m = g.D.Disk.moment in
    let l = g.D.Disk.left_since in
    absurd (never_lost (seen j.disk) j.end c.in-Err.error (c.in-Err.ensures.refused modelled) lost)

pub returns-then-saturating_sub-least-clause-kept : goal.returns-then-saturating_sub-least-clause-kept
returns-then-saturating_sub-least-clause-kept g c modelled =
    let j = c.args.journal.now in
    let seen = g.D.Disk.seen in
    let may = g.D.Disk.may_leave in
    let m = g.D.Disk.moment in
    let l = g.D.Disk.left_since in
    let sound : j.is_broken ≡ false = cc in
    let laws = c.lines_are_logs.ensures in
    let s = (c.is_steady.ensures modelled sound).1 in
    let it = c.in-Ok.ensures.shrinks modelled in
    has_kept laws.read laws.ended seen may j.disk j.end j.lines s c.args.floor c.in-Ok.shrunk it

pub returns-then-saturating_sub-least-clause-any_moment : goal.returns-then-saturating_sub-least-clause-any_moment
returns-then-saturating_sub-least-clause-any_moment g c modelled sound =
    let j = c.args.journal.now in
    let seen = g.D.Disk.seen in
    let may = g.D.Disk.may_leave in
    let m = g.D.Disk.moment in
    let l = g.D.Disk.left_since in
    weaker m l may j.disk c.read_shrunk.new.journal.disk (λ f. f ≡ seen j.disk) (IsBeforeOrCompacted c.args.floor (seen j.disk))
    (c.read_shrunk.ensures.any_moment modelled) (λ f was. inl (ap said was))

pub returns-then-saturating_sub-least-clause-left : goal.returns-then-saturating_sub-least-clause-left
returns-then-saturating_sub-least-clause-left g c modelled goes =
    let j = c.args.journal.now in
    let seen = g.D.Disk.seen in
    let may = g.D.Disk.may_leave in
    let m = g.D.Disk.moment in
    let l = g.D.Disk.left_since in
    inl (ap said (c.read_shrunk.ensures.seen modelled))

pub renew-requires-clause-log : goal.renew-requires-clause-log
renew-requires-clause-log g c modelled =
    let j = c.args.journal.now in
    let seen = g.D.Disk.seen in
    let may = g.D.Disk.may_leave in
    let m = g.D.Disk.moment in
    let l = g.D.Disk.left_since in
    let sound : j.is_broken ≡ false = cc in
    let laws = c.lines_are_logs.ensures in
    let s = (c.is_steady.ensures modelled sound).1 in
    let it = c.in-Ok.ensures.shrinks modelled in
    let bytes : c.deref.result.now ≡ c.in-Ok.shrunk.bytes.items = c.deref.ensures.value in
    subst (λ (b : List ℕ). IsEndedLog b c.in-Ok.shrunk.kept) (sym bytes)
    (ended_log laws.read laws.ended seen may j.disk j.end j.lines s c.args.floor c.in-Ok.shrunk it)

pub returns-in-Err-renew-clause-any_moment : goal.returns-in-Err-renew-clause-any_moment
returns-in-Err-renew-clause-any_moment g c modelled sound =
    let j = c.args.journal.now in
    let seen = g.D.Disk.seen in
    let may = g.D.Disk.may_leave in
    let m = g.D.Disk.moment in
    let l = g.D.Disk.left_since in
    let laws = c.lines_are_logs.ensures in
    let s = (c.is_steady.ensures modelled sound).1 in
    let it = c.in-Ok.ensures.shrinks modelled in
    let bytes : c.deref.result.now ≡ c.in-Ok.shrunk.bytes.items = c.deref.ensures.value in
    renewed laws.read laws.ended seen may j.disk j.end j.lines s c.args.floor c.in-Ok.shrunk it m l
    c.read_shrunk.new.journal.disk c.renew.new.self.disk c.deref.result.now bytes (c.read_shrunk.ensures.seen modelled)
    (c.read_shrunk.ensures.any_moment modelled) (c.renew.ensures.any_moment modelled)

pub returns-clause-any_moment : goal.returns-clause-any_moment
returns-clause-any_moment g c modelled sound =
    let j = c.args.journal.now in
    let seen = g.D.Disk.seen in
    let may = g.D.Disk.may_leave in
    let m = g.D.Disk.moment in
    let l = g.D.Disk.left_since in
    let laws = c.lines_are_logs.ensures in
    let s = (c.is_steady.ensures modelled sound).1 in
    let it = c.in-Ok.ensures.shrinks modelled in
    let bytes : c.deref.result.now ≡ c.in-Ok.shrunk.bytes.items = c.deref.ensures.value in
    renewed laws.read laws.ended seen may j.disk j.end j.lines s c.args.floor c.in-Ok.shrunk it m l
    c.read_shrunk.new.journal.disk c.renew.new.self.disk c.deref.result.now bytes (c.read_shrunk.ensures.seen modelled)
    (c.read_shrunk.ensures.any_moment modelled) (c.renew.ensures.any_moment modelled)

pub returns-clause-kept : goal.returns-clause-kept
returns-clause-kept g c modelled =
    let j = c.args.journal.now in
    let seen = g.D.Disk.seen in
    let may = g.D.Disk.may_leave in
    let m = g.D.Disk.moment in
    let l = g.D.Disk.left_since in
    let sound : j.is_broken ≡ false = cc in
    let laws = c.lines_are_logs.ensures in
    let s = (c.is_steady.ensures modelled sound).1 in
    let it = c.in-Ok.ensures.shrinks modelled in
    has_kept laws.read laws.ended seen may j.disk j.end j.lines s c.args.floor c.in-Ok.shrunk it

pub returns-clause-left : goal.returns-clause-left
returns-clause-left g c modelled goes =
    let j = c.args.journal.now in
    let seen = g.D.Disk.seen in
    let may = g.D.Disk.may_leave in
    let m = g.D.Disk.moment in
    let l = g.D.Disk.left_since in
    let sound : j.is_broken ≡ false = cc in
    let laws = c.lines_are_logs.ensures in
    let s = (c.is_steady.ensures modelled sound).1 in
    let it = c.in-Ok.ensures.shrinks modelled in
    let bytes : c.deref.result.now ≡ c.in-Ok.shrunk.bytes.items = c.deref.ensures.value in
    let all = whole laws.read laws.ended seen may j.disk j.end j.lines s c.args.floor c.in-Ok.shrunk it in
    let now : seen c.renew.new.self.disk ≡ c.in-Ok.shrunk.bytes.items = c.in_default.ensures.renewed modelled ∙ bytes in
    inr (subst (λ (t : List ℕ). IsCompactedBy c.args.floor (seen j.disk) t) (sym now) all)

pub returns-clause-many : goal.returns-clause-many
returns-clause-many g c least = record {
  compacted = λ modelled.
      let j = c.args.journal.now in
      let seen = g.D.Disk.seen in
      let may = g.D.Disk.may_leave in
      let m = g.D.Disk.moment in
      let l = g.D.Disk.left_since in
      let sound : j.is_broken ≡ false = cc in
      let laws = c.lines_are_logs.ensures in
      let s = (c.is_steady.ensures modelled sound).1 in
      let it = c.in-Ok.ensures.shrinks modelled in
      let bytes : c.deref.result.now ≡ c.in-Ok.shrunk.bytes.items = c.deref.ensures.value in
      let all = whole laws.read laws.ended seen may j.disk j.end j.lines s c.args.floor c.in-Ok.shrunk it in
      let now : seen c.renew.new.self.disk ≡ c.in-Ok.shrunk.bytes.items = c.in_default.ensures.renewed modelled ∙ bytes in
      subst (λ (t : List ℕ). IsCompactedBy c.args.floor (seen j.disk) t) (sym now) all;
  lines = ap (λ (k : JournalState g.row.D.Denot). k.lines) c.in_default.ensures.lines;
  is_broken = ap (λ (k : JournalState g.row.D.Denot). k.is_broken) c.in_default.ensures.lines;
}

pub returns-in-Err-clause-was_broken : goal.returns-in-Err-clause-was_broken
returns-in-Err-clause-was_broken g c modelled is =
    let j = c.args.journal.now in
    absurd (never_broken (g.D.Disk.seen j.disk) j.end c.in-Err.error (c.in-Err.ensures.refused modelled) is)

pub returns-in-Err-renew-clause-was_broken : goal.returns-in-Err-renew-clause-was_broken
returns-in-Err-renew-clause-was_broken g c modelled is = absurd (no_renewal_broken c.in-Err-renew.error (cc))

pub returns-in-Err-renew-clause-lost : goal.returns-in-Err-renew-clause-lost
returns-in-Err-renew-clause-lost g c modelled lost = (c.read_shrunk.new.journal.disk, c.in-Err-renew.error, c.in-Err-renew.ensures.fault)

pub returns-in-Err-renew-clause-failed : goal.returns-in-Err-renew-clause-failed
returns-in-Err-renew-clause-failed g c failed = inr (c.read_shrunk.new.journal.disk, c.in-Err-renew.error, c.in-Err-renew.ensures.fault)

pub returns-in-Err-clause-failed : goal.returns-in-Err-clause-failed
returns-in-Err-clause-failed g c failed = inl (c.in-Err.ensures.fault failed)
