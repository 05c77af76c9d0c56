use Rattle.std.proofs.Common.{◌≡◌, ap₂, false, true, subst}
use Rattle.reg_journal.specs.Disk.{LeavesOnly}
use Rattle.reg_journal.specs.Lines.{said}
use Rattle.reg_file_keep.specs.KeepState.{KeepState}
use Rattle.reg_file_keep.specs.Keeping.{MakesRoom, says_compaction}
use Rattle.reg_file_keep.specs.Upkeep.{state_of}
use Rattle.reg_file_keep.proofs.Rooms.{floor_up}
use Rattle.reg_file_keep.proofs.keeping.FileKeep.make_room.Goals as goal

pub invariant_of-self : goal.invariant_of-self
invariant_of-self g c modelled goes =
    floor_up c.self.inside.upkeep.floor c.make_room.new.upkeep.floor (said (g.D.Disk.seen c.make_room.new.journal.disk))
    c.make_room.ensures.rises (c.make_room.ensures.low modelled goes)

pub returns-clause-room : goal.returns-clause-room
returns-clause-room g c =
    let d = g.D.Disk in
    let room = c.make_room.ensures in
    subst (λ (k : KeepState g.row.D.Denot). k.journal.is_broken ≡ false
    → MakesRoom d.is_modelled d.seen d.faults g.D.Renewable.renewals k (state_of c.make_room.new.journal c.make_room.new.upkeep)) c.self.view_is
    (λ sound. record {
      says = room.says;
      low = room.low;
      still = room.still;
      next = room.next;
      tries = room.tries sound;
      lost = room.lost;
    })

pub returns-clause-any_moment : goal.returns-clause-any_moment
returns-clause-any_moment g c modelled =
    let d = g.D.Disk in
    subst (λ (k : KeepState g.row.D.Denot). k.journal.is_broken ≡ false
    → LeavesOnly d.moment d.left_since d.may_leave k.journal.disk c.make_room.new.journal.disk
    (says_compaction (said (d.seen k.journal.disk)))) c.self.view_is
    (c.make_room.ensures.any_moment modelled)

pub returns-clause-broken : goal.returns-clause-broken
returns-clause-broken g c =
    subst (λ (k : KeepState g.row.D.Denot). k.journal.is_broken ≡ true
    → state_of c.make_room.new.journal c.make_room.new.upkeep ≡ k) c.self.view_is
    (λ broken. let same = c.make_room.ensures.broken broken in ap₂ state_of same.0 same.1)
