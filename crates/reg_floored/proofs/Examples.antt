-- A record that deletes its key, on both sides of the floor.
use Rattle.std.proofs.Common.{◌≡◌, ℕ, true, false, None, Some, [], refl}
use Rattle.reg_records.specs.declared.key.Key.TheVariants.{Noop}
use Rattle.reg_records.specs.declared.record.Record.{Record}
use Rattle.reg_set.specs.Compaction.{deletes_below}

abbrev delete_at : ℕ → Record
delete_at offset = record { offset = offset; key = Noop; value = None }

pub at_the_floor : deletes_below 9 (delete_at 9) ≡ false
at_the_floor = refl

pub below_the_floor : deletes_below 10 (delete_at 9) ≡ true
below_the_floor = refl

pub with_a_value : deletes_below 10 (record (delete_at 9) { value = Some [] }) ≡ false
with_a_value = refl
