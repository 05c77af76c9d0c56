-- Of the trails of one length the first, where there is one.
use Rattle.std.proofs.Common.{◌≡◌, ℕ, zero, suc, List, [], ◌∷◌, length, ◌⊎◌, inl, inr, Option, Some}
use Rattle.std.proofs.Common.{None, IsSome, option_map, option_and_then, slice_get, refl, ap, arith}
use Rattle.avro_resolve.specs.avro_schema.declared.node.Node.{Node}
use Rattle.avro_resolve.specs.declared.trail.ClashKind.{ClashKind}
use Rattle.avro_resolve.specs.declared.trail.Trail.{Trail}
use Rattle.avro_resolve.specs.declared.obligations.Pair.{Pair}
use Rattle.avro_resolve.specs.declared.obligations.Obligation.{Obligation}
use Rattle.avro_resolve.specs.Table.{clash_of, obligations}
use Rattle.avro_resolve.specs.Trails.{trail_from, InOrder}

-- a map makes nothing of nothing, and something of something
pub some_of_map : {A B : Type 0} (f : A → B) (o : Option A) → IsSome (option_map f o) → IsSome o
some_of_map f None e = e
some_of_map f (Some x) e = refl

pub map_of_some : {A B : Type 0} (f : A → B) (o : Option A) → IsSome o → IsSome (option_map f o)
map_of_some f None e = e
map_of_some f (Some x) e = refl

pub none_isnt_some : {A : Type 0} (o : Option A) → o ≡ None → IsSome o → ⊥
none_isnt_some None e some = cc
none_isnt_some (Some x) e some = cc

pub some_is : {A : Type 0} (o : Option A) (x : A) → o ≡ Some x → IsSome o
some_is None x e = cc
some_is (Some y) x e = refl

module _ (r w : List Node) where
  -- whether the obligation of that number among some leads to a clash, along these
  abbrev pub Leads : List Obligation → ℕ → List ℕ → Type 0
  Leads os k ks =
      IsSome (
      option_and_then (λ o. option_map (λ (t : Trail). record t { hops = o.hop ∷ t.hops }) (trail_from r w o.pair ks)) (slice_get os k))

-- the first of so many numbers that lead from a pair to a clash
pub record First (r w : List Node) (n : ℕ) (p : Pair) : Type 0 where
  pub numbers : List ℕ
  pub long : length numbers ≡ n
  pub leads : IsSome (trail_from r w p numbers)
  pub first : (ls : List ℕ) → length ls ≡ n → IsSome (trail_from r w p ls) → InOrder numbers ls

abbrev pub HasNone : (r w : List Node) → ℕ → Pair → Type 0
HasNone r w n p = (ls : List ℕ) → length ls ≡ n → IsSome (trail_from r w p ls) → ⊥

-- the same of some obligations, and so many numbers after that of one of them
pub record FirstAmong (r w : List Node) (n : ℕ) (os : List Obligation) : Type 0 where
  pub number : ℕ
  pub numbers : List ℕ
  pub long : length numbers ≡ n
  pub leads : Leads r w os number numbers
  pub first : (l : ℕ) (ls : List ℕ) → length ls ≡ n → Leads r w os l ls → InOrder (number ∷ numbers) (l ∷ ls)

abbrev pub HasNoneAmong : (r w : List Node) → ℕ → List Obligation → Type 0
HasNoneAmong r w n os = (l : ℕ) (ls : List ℕ) → length ls ≡ n → Leads r w os l ls → ⊥

module _ (r w : List Node) where
  -- where the first obligation leads there, it is the first
  of_the_first : (n : ℕ) (o : Obligation) (os : List Obligation) → First r w n o.pair → FirstAmong r w n (o ∷ os)
  of_the_first n o os f = record {
    number = zero;
    numbers = f.numbers;
    long = f.long;
    leads = map_of_some _ (trail_from r w o.pair f.numbers) f.leads;
    first = first;
  }
    where
      first : (l : ℕ) (ls : List ℕ) → length ls ≡ n → Leads r w (o ∷ os) l ls → InOrder (zero ∷ f.numbers) (l ∷ ls)
      first zero ls long leads = inr (refl, f.first ls long (some_of_map _ (trail_from r w o.pair ls) leads))
      first (suc l) ls long leads = inl (omega arith)

  -- where it doesn't, it is that of the others
  of_the_others : (n : ℕ) (o : Obligation) (os : List Obligation) → HasNone r w n o.pair → FirstAmong r w n os → FirstAmong r w n (o ∷ os)
  of_the_others n o os none f = record {
    number = suc f.number;
    numbers = f.numbers;
    long = f.long;
    leads = f.leads;
    first = first;
  }
    where
      later : (l : ℕ) (ls : List ℕ) → InOrder (f.number ∷ f.numbers) (l ∷ ls) → InOrder (suc f.number ∷ f.numbers) (suc l ∷ ls)
      later l ls (inl less) = inl (omega arith)
      later l ls (inr same) = inr (ap suc same.0, same.1)

      first : (l : ℕ) (ls : List ℕ) → length ls ≡ n → Leads r w (o ∷ os) l ls → InOrder (suc f.number ∷ f.numbers) (l ∷ ls)
      first zero ls long leads = absurd (none ls long (some_of_map _ (trail_from r w o.pair ls) leads))
      first (suc l) ls long leads = later l ls (f.first l ls long leads)

  of_none : (n : ℕ) (o : Obligation) (os : List Obligation) → HasNone r w n o.pair → HasNoneAmong r w n os → HasNoneAmong r w n (o ∷ os)
  of_none n o os none others zero ls long leads = none ls long (some_of_map _ (trail_from r w o.pair ls) leads)
  of_none n o os none others (suc l) ls long leads = others l ls long leads

  among : (n : ℕ) → ((p : Pair) → First r w n p ⊎ HasNone r w n p) → (os : List Obligation) → FirstAmong r w n os ⊎ HasNoneAmong r w n os
  among n each [] = inr (λ l ls long leads. cc)
  among n each (o ∷ os) = elim (each o.pair) [
    | inl f ↦ inl (of_the_first n o os f)
    | inr none ↦ elim (among n each os) [
      | inl f ↦ inl (of_the_others n o os none f)
      | inr others ↦ inr (of_none n o os none others)
    ]
  ]

  -- a pair that clashes itself, and one that doesn't
  at_once : (p : Pair) (c : Option ClashKind) → clash_of r w p ≡ c → First r w zero p ⊎ HasNone r w zero p
  at_once p (Some c) is =
      inl (
      record {
        numbers = [];
        long = refl;
        leads = map_of_some _ (clash_of r w p) (some_is (clash_of r w p) c is);
        first = λ ls long leads. tt;
      })
  at_once p None is = inr none
    where
      none : HasNone r w zero p
      none [] long leads = none_isnt_some (clash_of r w p) is (some_of_map _ (clash_of r w p) leads)
      none (l ∷ ls) long leads = absurd (omega (arith, long))

  by_obligations : (n : ℕ) (p : Pair) → FirstAmong r w n (obligations r w p) ⊎ HasNoneAmong r w n (obligations r w p)
      → First r w (suc n) p ⊎ HasNone r w (suc n) p
  by_obligations n p (inl f) = inl (record { numbers = f.number ∷ f.numbers; long = ap suc f.long; leads = f.leads; first = first })
    where
      first : (ls : List ℕ) → length ls ≡ suc n → IsSome (trail_from r w p ls) → InOrder (f.number ∷ f.numbers) ls
      first [] long leads = absurd (omega (arith, long))
      first (l ∷ ls) long leads = f.first l ls (omega (arith, long)) leads
  by_obligations n p (inr others) = inr none
    where
      none : HasNone r w (suc n) p
      none [] long leads = absurd (omega (arith, long))
      none (l ∷ ls) long leads = others l ls (omega (arith, long)) leads

  pub first_of_length : (n : ℕ) (p : Pair) → First r w n p ⊎ HasNone r w n p
  first_of_length zero p = at_once p (clash_of r w p) refl
  first_of_length (suc n) p = by_obligations n p (among n (λ q. first_of_length n q) (obligations r w p))
