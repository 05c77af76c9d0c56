-- Fronts of the records that lines say.
use Rattle.std.proofs.Common.{suc, zero, List, [], ◌∷◌, refl, ap, arith}
use Rattle.reg_records.specs.declared.record.Read.TheVariants as reads
use Rattle.reg_records.specs.declared.record.Record.{Record}
use Rattle.reg_intake.specs.Intake.{FirstRecordsAreOfFirstLines}

pub first_records : FirstRecordsAreOfFirstLines
first_records [] n zero within below most = (0, omega (arith, within), omega arith, refl)
first_records [] n (suc k) within below most = absurd (omega (arith, most))
first_records (reads.Foreign offset ∷ read) zero k within below most =
    let it = first_records read 0 k (omega arith) (omega arith) most in
    (suc it.0, omega arith, omega (arith, it.2), it.3)
first_records (reads.Foreign offset ∷ read) (suc n) k within below most =
    let it = first_records read n k (omega (arith, within)) below most in
    (suc it.0, omega (arith, it.1), omega (arith, it.2), it.3)
first_records (reads.Record r ∷ read) zero zero within below most = (0, omega arith, omega arith, refl)
first_records (reads.Record r ∷ read) zero (suc k) within below most =
    let it = first_records read 0 k (omega arith) (omega arith) (omega (arith, most)) in
    (suc it.0, omega arith, omega (arith, it.2), ap (λ (l : List Record). r ∷ l) it.3)
first_records (reads.Record r ∷ read) (suc n) zero within below most = absurd (omega (arith, below))
first_records (reads.Record r ∷ read) (suc n) (suc k) within below most =
    let it = first_records read n k (omega (arith, within)) (omega (arith, below)) (omega (arith, most)) in
    (suc it.0, omega (arith, it.1), omega (arith, it.2), ap (λ (l : List Record). r ∷ l) it.3)
