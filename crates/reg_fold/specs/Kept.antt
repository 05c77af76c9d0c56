-- Private: what a registry keeps beside its last records, so that it reads each of them once.
use Rattle.std.specs.Prelude.{◌≡◌, ◌≢◌, Result, OnOk, OnErr}
use Rattle.std.specs.FinSet as set
use Rattle.std.specs.declared.alloc.AllocError.{AllocError}
use Rattle.reg_values.specs.reg_records.declared.record.Record.{Record}
use Rattle.reg_set.specs.LastRecords.{last_records}
use Rattle.reg_fold.specs.IdMark.{id_mark}
use Rattle.reg_fold.specs.InForce.{own_level, own_mode_name}
use Rattle.reg_fold.specs.Opaque.{is_opaque}
use Rattle.reg_fold.specs.Own.{AreOwnEntries}
use Rattle.reg_fold.specs.Scopes.{AreOwn}
use Rattle.reg_fold.specs.SoftDeletes.{own_delete}
use Rattle.reg_fold.specs.Spots.{HasSpots}
use Rattle.reg_fold.specs.Step.{EntriesAreOfLasts}
use Rattle.reg_fold.specs.declared.index.Index.{Index}

pub record IsKept (index : Index) : Type 0 where
  pub of_lasts : EntriesAreOfLasts index.last
  pub all_entries : AreOwnEntries index.last index.entries
  pub all_unread : HasSpots is_opaque index.last index.unread
  pub all_deletes : AreOwn (own_delete index.last) index.deletes
  pub all_levels : AreOwn (own_level index.last) index.levels
  pub all_modes : AreOwn (own_mode_name index.last) index.modes
  pub the_mark : index.id_mark ≡ id_mark index.last

-- the record is news to an index that is kept: it changes the last records
pub record IsNewsTo (given : Record) (index : Index) : Type 0 where
  pub kept : IsKept index
  pub changes : last_records (set.insert index.last given) ≢ index.last

-- the record is added on Ok, and on Err the last records are as they were; either way the index is kept
pub record AddsOnOk (before : Index) (given : Record) (result : Result (Unit {0}) AllocError) (after : Index) : Type 0 where
  pub kept : IsKept after
  pub added : OnOk result (after.last ≡ last_records (set.insert before.last given))
  pub refused : OnErr result (after.last ≡ before.last)
