-- What the soundness of a schema's nodes says of one of them.
use Rattle.std.proofs.Common.{◌≡◌, ℕ, zero, suc, ◌<◌, List, [], ◌∷◌, length, Bool, true, false}
use Rattle.std.proofs.Common.{◌&&◌, All, get_or, Some, slice_get, refl, subst, arith}
use Rattle.avro_schema.specs.declared.node.NodeId.{NodeId}
use Rattle.avro_schema.specs.declared.node.Node.{Node}
use Rattle.avro_schema.specs.Sound.{IsSound, parts_of_node}

pub and_left : (a b : Bool) → (a && b) ≡ true → a ≡ true
and_left true b e = refl
and_left false b e = e

pub and_right : (a b : Bool) → (a && b) ≡ true → b ≡ true
and_right true b e = e
and_right false b e = cc

pub below_length : {A : Type 0} (xs : List A) (k : ℕ) (x : A) → slice_get xs k ≡ Some x → k < length xs
below_length [] k x e = cc
below_length (y ∷ xs) zero x e = omega arith
below_length (y ∷ xs) (suc k) x e = let h : k < length xs = below_length xs k x e in omega arith

get_or_at : {A : Type 0} (xs : List A) (k : ℕ) (x : A) → slice_get xs k ≡ Some x → get_or xs k x ≡ x
get_or_at [] k x e = cc
get_or_at (y ∷ xs) zero x e = cc
get_or_at (y ∷ xs) (suc k) x e = get_or_at xs k x e

-- what holds of all elements, holds of the one at a place
pub all_at : {A : Type 0} (P : A → Type 0) (xs : List A) → All P xs → (k : ℕ) (x : A) → slice_get xs k ≡ Some x → P x
all_at P xs all k x e = subst P (get_or_at xs k x e) (all k x (below_length xs k x e))

pub part_below : (ns : List Node) → IsSound ns → (i : ℕ) (m : Node) → slice_get ns i ≡ Some m
    → (k : ℕ) (a : NodeId) → slice_get (parts_of_node m) k ≡ Some a → a.index < length ns
part_below ns s i m at k a a_at = all_at (λ (b : NodeId). b.index < length ns) (parts_of_node m) (s.closed i m at) k a a_at
