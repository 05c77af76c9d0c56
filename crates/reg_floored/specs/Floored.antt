-- A set of records with a floor.
use Rattle.std.specs.Prelude.{ℕ, refl}
use Rattle.std.specs.Coded.{Coded, code_by, coded×, coded_ℕ}
use Rattle.std.specs.FinSet as sets
use Rattle.reg_records.specs.contracts.record.Record as stored
use Rattle.reg_set.specs.Records.{Records}

-- a set of records, and the offset below which keys whose last record deletes them may be missing
pub record Floored : Type 0 where
  pub records : Records
  pub floor : ℕ

abbrev pub floored_code : Coded Floored
floored_code =
    code_by (Records × ℕ) (coded× (sets.code (stored.the_row).coded) coded_ℕ)
    (λ s. (s.records, s.floor)) (λ p. record { records = p.0; floor = p.1 }) (λ _. refl)
