-- The topic without a record is adopted: nothing in it is closed.
use Rattle.std.proofs.Common.{◌≡◌, true, false, ◌||◌, is_some, Some, None, Contains, refl, sym, ◌∙◌, ap, arith}
use Rattle.std.specs.FinSet.{contains-empty, empty}
use Rattle.reg_leader.specs.reg_records.declared.key.Key.{Key}
use Rattle.reg_leader.specs.reg_records.declared.key.Key.TheVariants as keys
use Rattle.reg_leader.specs.reg_records.declared.record.Record.{Record}
use Rattle.reg_leader.specs.reg_set.Join.{LastIsGreatest}
use Rattle.reg_leader.specs.reg_set.LastRecords.{last, last_records}
use Rattle.reg_leader.specs.reg_set.RecordOrder.{record_cmp}
use Rattle.reg_leader.specs.reg_set.Records.{Records}
use Rattle.reg_leader.specs.reg_entries.TwoSchemas.{NoneIsOneTextEach}
use Rattle.reg_leader.specs.reg_entries.declared.entry.Entry.{Entry}
use Rattle.reg_leader.specs.reg_fold.Closed.{is_closed, two_schemas}
use Rattle.reg_leader.specs.reg_fold.Entries.{EntriesAreOfPlaces, entries}
use Rattle.reg_leader.specs.reg_fold.Opaque.{NoneIsNoOpaqueLast, opaque}
use Rattle.reg_existence.specs.Events.{EmptyTopicIsAdopted}

no_records : Records
no_records = empty

module _ (greatest : LastIsGreatest) (stand : EntriesAreOfPlaces) (opaque_lasts : NoneIsNoOpaqueLast) (one : NoneIsOneTextEach) where
  no_last : (key : Key) (r : Record) → last empty key ≡ Some r → ⊥
  no_last key r is =
      let there = ((greatest empty key r).0 is).is_in_set in
      let no : false ≡ true = sym (contains-empty record_cmp r) ∙ there in
      cc

  no_entry : (e : Entry) → Contains (entries (last_records empty)) e → ⊥
  no_entry e there = let (r, is, of_r) = (stand empty e).0 there in no_last (keys.Schema e.subject e.version) r is

  not_closed : is_closed (last_records empty) ≡ false
  not_closed =
      let read : opaque (last_records empty) ≡ None = (opaque_lasts empty).1 (λ key r is. absurd (no_last key r is)) in
      let apart : two_schemas (last_records empty) ≡ None =
      (one (entries (last_records empty))).1 (λ e f has_e has_f same. absurd (no_entry e has_e)) in
      ap (λ o. is_some o || is_some (two_schemas (last_records empty))) read ∙ ap is_some apart

  pub empty_is_adopted : EmptyTopicIsAdopted
  empty_is_adopted = record {
    not_closed = not_closed;
    ahead = λ r there. let no : false ≡ true = sym (contains-empty record_cmp r) ∙ there in cc;
    floor_below = omega arith;
    whole = refl;
  }
