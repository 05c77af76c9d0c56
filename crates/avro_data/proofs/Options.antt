-- Options and lists, as far as the rounds need them.
use Rattle.std.proofs.Common.{◌≡◌, ℕ, zero, suc, ◌<◌, List, [], ◌∷◌, length, set, Contains, Option, Some}
use Rattle.std.proofs.Common.{None, is_some, option_map, slice_get, false, replicate, refl, ap, arith}
use Rattle.std.specs.Option.{option_or}
use Rattle.avro_schema.specs.declared.node.NodeId.{NodeId}

pub or_none : {A : Type 0} (o p : Option A) → is_some o ≡ false → option_or o p ≡ p
or_none None p h = refl
or_none (Some x) p h = absurd (cc)

pub none_is : {A : Type 0} (o : Option A) → is_some o ≡ false → o ≡ None
none_is None h = refl
none_is (Some x) h = absurd (cc)

pub same_or : {A : Type 0} (o p : Option A) → is_some (option_or o p) ≡ is_some o → option_or o p ≡ o
same_or None p h = none_is p h
same_or (Some x) p h = refl

pub is_some-map : {A B : Type 0} (f : A → B) (o : Option A) → is_some (option_map f o) ≡ is_some o
is_some-map f None = refl
is_some-map f (Some x) = refl

pub map-or : {A B : Type 0} (f : A → B) (o p : Option A) → option_map f (option_or o p) ≡ option_or (option_map f o) (option_map f p)
map-or f None p = refl
map-or f (Some x) p = refl

pub outside : {A B : Type 0} (xs : List A) (ys : List B) (k : ℕ) → length xs ≡ length ys → slice_get xs k ≡ None → slice_get ys k ≡ None
outside [] [] k same e = refl
outside [] (y ∷ ys) k same e = absurd (omega arith)
outside (x ∷ xs) [] k same e = absurd (omega arith)
outside (x ∷ xs) (y ∷ ys) zero same e = absurd (cc)
outside (x ∷ xs) (y ∷ ys) (suc k) same e = outside xs ys k (omega arith) e

pub length_replicate : {A : Type 0} (c : ℕ) (x : A) → length (replicate c x) ≡ c
length_replicate zero x = refl
length_replicate (suc c) x = let rest = length_replicate c x in omega arith

pub set_same : {A : Type 0} (xs : List A) (i : ℕ) (x y : A) → slice_get xs i ≡ Some y → slice_get (set xs i x) i ≡ Some x
set_same [] i x y e = absurd (cc)
set_same (z ∷ xs) zero x y e = refl
set_same (z ∷ xs) (suc i) x y e = set_same xs i x y e

pub set_other : {A : Type 0} (xs : List A) (i k : ℕ) (x : A) → (k ≡ i → ⊥) → slice_get (set xs i x) k ≡ slice_get xs k
set_other [] i k x n = refl
set_other (z ∷ xs) zero zero x n = absurd (n refl)
set_other (z ∷ xs) zero (suc k) x n = refl
set_other (z ∷ xs) (suc i) zero x n = refl
set_other (z ∷ xs) (suc i) (suc k) x n = set_other xs i k x (λ e. n (ap suc e))

pub here : {A : Type 0} (x : A) (xs : List A) → Contains (x ∷ xs) x
here x xs = (0, omega arith, refl)

pub later : {A : Type 0} (y : A) (xs : List A) (x : A) → Contains xs x → Contains (y ∷ xs) x
later y xs x (k, within, at) = (suc k, omega arith, at)

pub contains_at : {A : Type 0} (xs : List A) (x : A) → Contains xs x → (k : ℕ) × (k < length xs) × (slice_get xs k ≡ Some x)
contains_at [] x (k, within, at) = absurd (omega arith)
contains_at (y ∷ xs) x (zero, within, at) = (0, omega arith, ap Some at)
contains_at (y ∷ xs) x (suc k, within, at) = let (j, lt, is) = contains_at xs x (k, omega arith, at) in (suc j, omega arith, is)

pub same_id : (i j : NodeId) → i.index ≡ j.index → i ≡ j
same_id i j e = λ d. record { index = e d }
