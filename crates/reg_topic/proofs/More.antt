-- A set that keeps each last record may have more of the whole.
use Rattle.std.proofs.Common.{◌≡◌, ⊎_elim, Bool, true, ◌||◌, Option, Some, None, IfSome, sym, ap, ◌∙◌}
use Rattle.std.specs.Cmp.{IsTotalOrder}
use Rattle.std.specs.FinSet.{contains, union, contains-union}
use Rattle.reg_leader.specs.reg_set.LastRecords.{last}
use Rattle.reg_leader.specs.reg_set.RecordOrder.{record_cmp}
use Rattle.reg_topic.specs.Laws.{MoreKeepsLasts}
use Rattle.reg_topic.proofs.Bools.{either}

if_some : {A : Type 0} (P Q : A → Type 0) (o : Option A) → ((x : A) → P x → Q x) → IfSome o P → IfSome o Q
if_some P Q None f h = tt
if_some P Q (Some x) f h = f x h

or_left : (a b : Bool) → a ≡ true → (a || b) ≡ true
or_left a b e = ap (λ a. a || b) e

pub more_keeps : IsTotalOrder record_cmp → MoreKeepsLasts
more_keeps order C P R is part = record {
  is_part = λ r h. ⊎_elim (is.is_part r) (part r) (either (contains C r) (contains P r) (sym (contains-union order C P r) ∙ h));
  has_lasts = λ key.
      if_some (λ r. contains C r ≡ true) (λ r. contains (union C P) r ≡ true) (last R key)
      (λ r h. contains-union order C P r ∙ or_left (contains C r) (contains P r) h) (is.has_lasts key);
}
