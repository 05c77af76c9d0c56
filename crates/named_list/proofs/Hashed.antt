-- The order of names by their hashes.
use Rattle.std.proofs.Common.{◌≡◌, Bool, true, false, ◌&&◌, List, ℕ, bytes_eq, refl, sym, ap, ◌∙◌}
use Rattle.std.proofs.lemmas.Cmp.{nat_cmp_total, nat_list_cmp_total, on_total, then_total, tied_itself}
use Rattle.std.proofs.lemmas.Map.Text.{is_eq-slice_cmp}
use Rattle.std.proofs.lemmas.Slice.Eq.{bytes_eq-Decides}
use Rattle.std.specs.Cmp.{IsTotalOrder, tied_then}
use Rattle.std.specs.Cmp.Lexicographic.{slice_cmp}
use Rattle.std.specs.Ordering.{nat_cmp, is_eq}
use Rattle.named_list.specs.Index.{hash_cmp}
use Rattle.named_list.specs.Slots.{hash_from}

pub hash_cmp_total : IsTotalOrder hash_cmp
hash_cmp_total = then_total (on_total (hash_from 0) nat_cmp_total) nat_list_cmp_total

none : (b : Bool) → (b && false) ≡ false
none true = refl
none false = refl

same_hash : (x y : List ℕ) (b : Bool) → bytes_eq x y ≡ b → (is_eq (nat_cmp (hash_from 0 x) (hash_from 0 y)) && b) ≡ b
same_hash x y true h =
    let is : x ≡ y = (bytes_eq-Decides x y).0 h in
    ap (λ z. is_eq (nat_cmp (hash_from 0 x) (hash_from 0 z)) && true) (sym is)
    ∙ ap (λ o. is_eq o && true) (tied_itself nat_cmp_total (hash_from 0 x))
same_hash x y false h = none _

pub is_eq-hash_cmp : (x y : List ℕ) → is_eq (hash_cmp x y) ≡ bytes_eq x y
is_eq-hash_cmp x y =
    sym (tied_then (nat_cmp (hash_from 0 x) (hash_from 0 y)) (slice_cmp nat_cmp x y))
    ∙ ap (λ b. is_eq (nat_cmp (hash_from 0 x) (hash_from 0 y)) && b) (is_eq-slice_cmp x y)
    ∙ same_hash x y (bytes_eq x y) refl
