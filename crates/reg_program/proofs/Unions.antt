-- A set of records and none more.
use Rattle.std.proofs.Common.{◌≡◌, ◌||◌, ap, ◌∙◌}
use Rattle.std.specs.Cmp.{IsTotalOrder}
use Rattle.std.specs.FinSet.{IsAntisymmetric, contains-empty, contains-union, empty, contains, same_set, union}
use Rattle.reg_set.specs.RecordOrder.{record_cmp}
use Rattle.reg_set.specs.Records.{Records}

pub union-empty : IsTotalOrder record_cmp → IsAntisymmetric record_cmp → (more : Records) → union empty more ≡ more
union-empty ordered apart more =
    same_set ordered apart (union empty more) more
    (λ r. contains-union ordered empty more r ∙ ap (λ b. b || contains more r) (contains-empty record_cmp r))
