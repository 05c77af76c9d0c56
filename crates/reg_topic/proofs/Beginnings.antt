-- A log that takes commands begins an adopted topic.
use Rattle.std.proofs.Common.{◌≡◌, ℕ, suc, ◌+◌, ◌<◌, ◌≤◌, Bool, true, false, List, length, nat_le, All, refl, sym, ◌∙◌, arith}
use Rattle.std.specs.Cmp.{IsTotalOrder}
use Rattle.std.specs.FinSet.{from_list, IsAntisymmetric, contains-from_list}
use Rattle.reg_leader.specs.reg_records.declared.limits.TheConstants.{OFFSET_LIMIT}
use Rattle.reg_leader.specs.reg_records.declared.record.Record.{Record}
use Rattle.reg_leader.specs.reg_set.Join.{LastIsGreatest, LastOfLastRecords, LastOfUnion}
use Rattle.reg_leader.specs.reg_set.LastRecords.{last_records}
use Rattle.reg_leader.specs.reg_set.RecordOrder.{record_cmp}
use Rattle.reg_leader.specs.reg_entries.TwoSchemas.{NoneIsOneTextEach}
use Rattle.reg_leader.specs.reg_fold.Closed.{is_closed}
use Rattle.reg_leader.specs.reg_fold.Entries.{EntriesAreOfPlaces}
use Rattle.reg_leader.specs.reg_fold.Opaque.{NoneIsNoOpaqueLast}
use Rattle.reg_leader.specs.Adoption.{adopting}
use Rattle.reg_leader.specs.OneStep.{goes_on}
use Rattle.reg_leader.specs.GivenIds.{AreBelow}
use Rattle.reg_topic.specs.Laws.{AdoptedLogsBegin}
use Rattle.reg_topic.specs.Topic.{IsAdopted, after_batch, follows, plain_topic, topic_from}
use Rattle.reg_topic.proofs.Marks.{AreMarks, due_are_marks, marks_leave_open}
use Rattle.reg_topic.proofs.Bools.{both_true}
use Rattle.reg_topic.proofs.Offsets.{below_batch, below_list}

module _ (order : IsTotalOrder record_cmp) (apart : IsAntisymmetric record_cmp)
    (greatest : LastIsGreatest) (of_union : LastOfUnion) (of_lasts : LastOfLastRecords)
    (stand : EntriesAreOfPlaces) (opaque_lasts : NoneIsNoOpaqueLast) (one : NoneIsOneTextEach) where
  below : (rs : List Record) (next : ℕ) → All (λ r. r.offset < next) rs → AreBelow (from_list rs) next
  below rs next all q h = below_list order apart next rs all q (sym (contains-from_list order rs q) ∙ h)

  begins : (b : Bool) (rs : List Record) (next floor : ℕ) (due : List Record) → follows next due ≡ b → AreMarks due
      → All (λ r. r.offset < next) rs → floor ≤ next → is_closed (last_records (from_list rs)) ≡ false
      → IsAdopted (after_batch b (plain_topic rs next floor) due)
  begins true rs next floor due on marks all low fine = record {
    not_closed = marks_leave_open order apart greatest of_union of_lasts stand opaque_lasts one (from_list rs) due marks fine;
    ahead = below_batch order apart true (plain_topic rs next floor) due
        (λ _. (both_true (goes_on next due) (nat_le (next + length due) (suc OFFSET_LIMIT)) on).0) (below rs next all);
    floor_below = omega (arith, low);
    whole = refl;
  }
  begins false rs next floor due on marks all low fine =
      record { not_closed = fine; ahead = below rs next all; floor_below = low; whole = refl }

  pub adopted_begin : AdoptedLogsBegin
  unfolding topic_from
  adopted_begin rs next floor all low fine =
      let due : List Record = adopting (last_records (from_list rs)) next in
      begins (follows next due) rs next floor due refl (due_are_marks (last_records (from_list rs)) next) all low fine
