-- What a topic begins with, as a list.
use Rattle.std.proofs.Common.{◌≡◌, ℕ, Bool, true, false, ◌&&◌, List, refl, ◌∙◌, arith}
use Rattle.std.proofs.lemmas.Bool.{le-leb}
use Rattle.std.specs.Bool.{nat_le}
use Rattle.std.specs.Cmp.{IsTotalOrder}
use Rattle.std.specs.FinSet.{contains, from_list, IsAntisymmetric, same_set}
use Rattle.reg_records.specs.declared.record.Record.{Record}
use Rattle.reg_set.specs.RecordOrder.{record_cmp}
use Rattle.reg_set.specs.Records.{Records}
use Rattle.reg_shared.specs.Held.{IsSince}

from_zero : (n : ℕ) → nat_le 0 n ≡ true
from_zero n = le-leb 0 n (omega arith)

first_alone : (a b : Bool) → b ≡ true → (a && b) ≡ a
first_alone true b h = h
first_alone false b h = refl

-- all records from offset 0 on are all
pub all_since : IsTotalOrder record_cmp → IsAntisymmetric record_cmp → (kept : Records) (found : List Record)
    → IsSince kept 0 found → from_list {R = record_cmp} found ≡ kept
all_since o apart kept found since =
    same_set o apart (from_list {R = record_cmp} found) kept
    (λ r. since r ∙ first_alone (contains kept r) (nat_le 0 r.offset) (from_zero r.offset))
