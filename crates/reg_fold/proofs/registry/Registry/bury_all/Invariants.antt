use Rattle.std.proofs.Common.{◌≡◌, true}
use Rattle.std.specs.FinSet as set
use Rattle.reg_values.specs.reg_records.declared.record.Record.{Record}
use Rattle.reg_set.specs.LastRecords.{last_records}
use Rattle.reg_fold.specs.Tombstones.{is_tombstone}
use Rattle.reg_fold.proofs.registry.Registry.bury_all.Given as goal

abbrev pub invariant-loop-tombstone : goal.invariant-loop-tombstone
invariant-loop-tombstone l = record {
  added : l.self ≡ last_records (set.union l.fn.self (set.from_list l.yielded));
  others : (other : Record) → is_tombstone l.fn.self other ≡ true → is_tombstone l.self other ≡ true;
}
