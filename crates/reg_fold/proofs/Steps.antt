-- What a registry's last records are, for each kind of record.
use Rattle.std.proofs.Common.{◌≡◌, false, sym, ap, ◌∙◌}
use Rattle.std.proofs.lemmas.Bool.{false≢true}
use Rattle.std.specs.FinSet.{IsAntisymmetric}
use Rattle.std.specs.Cmp.{IsTotalOrder}
use Rattle.reg_values.specs.reg_records.declared.key.Key.{Key}
use Rattle.reg_values.specs.reg_records.declared.key.Key.TheVariants as keys
use Rattle.reg_set.specs.Join.{LastIsGreatest}
use Rattle.reg_set.specs.LastRecords.{last_records}
use Rattle.reg_set.specs.RecordOrder.{record_cmp}
use Rattle.reg_set.specs.Records.{Records}
use Rattle.reg_entries.specs.EntryOrder.{Place}
use Rattle.reg_fold.specs.Opaque.{is_version}
use Rattle.reg_fold.specs.Step.{EntriesAreOfLasts}
use Rattle.reg_fold.proofs.OfLasts.{last_of_itself}
use Rattle.reg_fold.proofs.Places.{entry_at}

pub entries_are_of_lasts : IsTotalOrder record_cmp → IsAntisymmetric record_cmp
    → LastIsGreatest → (S : Records) → last_records S ≡ S → EntriesAreOfLasts S
entries_are_of_lasts total ties greatest S are_last = entry_at total ties greatest S (last_of_itself total ties S are_last)

pub no_version : (key : Key) → is_version key ≡ false → (p : Place) → ¬ (key ≡ keys.Schema p.0 p.1)
no_version key other p same = false≢true (sym other ∙ ap is_version same)
