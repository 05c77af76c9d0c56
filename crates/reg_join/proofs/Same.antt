-- What `==` says of records.
use Rattle.std.proofs.Common.{◌≡◌, ◌↔◌, Bool, true, IsTrue, List, rules}
use Rattle.std.specs.Bool.{Decides}
use Rattle.std.specs.Cmp.Lexicographic.{pointwise}
use Rattle.std.proofs.lemmas.Slice.Eq.{slice_eq-Decides}
use Rattle.reg_records.specs.contracts.record.RecordPartialEq.TheImpl as records
use Rattle.reg_records.specs.declared.record.Record.{Record}

abbrev equal : Record → Record → Bool
equal = (records.ghosts).eq

one : (r q : Record) → equal r q ≡ true → r ≡ q
one r q e = search rules

same : (r q : Record) → r ≡ q → equal r q ≡ true
same r q e = search rules

records_decide : (r q : Record) → Decides (equal r q) (r ≡ q)
records_decide r q = (one r q, same r q)

pub is_same : (xs ys : List Record) (b : Bool) → b ≡ pointwise (records.ghosts).eq xs ys → IsTrue b ↔ (xs ≡ ys)
is_same xs ys b is = slice_eq-Decides records_decide xs ys b is
