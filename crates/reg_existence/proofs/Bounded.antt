-- Some number of hops is enough: what leads to a clash at all leads to one within it. There are finitely many pairs, so with more
-- and more hops no more of them come to lead to one some time.
use Rattle.std.proofs.Common.{◌≡◌, ℕ, zero, suc, ◌+◌, ◌*◌, ◌/◌, ◌%◌, ◌<◌, ◌≤◌, List, [], ◌∷◌, length, Bool, true, false, ◌||◌, cond, ◌⊎◌}
use Rattle.std.proofs.Common.{inl, inr, Option, Some, None, IsSome, is_some, option_map, option_and_then, slice_get, refl, sym, ◌∙◌, ap}
use Rattle.std.proofs.Common.{subst, arith, mul_comm}
use Rattle.std.specs.List.{list_any}
use Rattle.std.specs.Result.{result_err}
use Rattle.std.proofs.lemmas.Nat.{mul-add-lt, div-mul-add, mod-mul-add}
use Rattle.std.proofs.lemmas.Option.{slice_get_within}
use Rattle.avro_resolve.specs.avro_schema.declared.node.Node.{Node}
use Rattle.avro_resolve.specs.declared.trail.Trail.{Trail}
use Rattle.avro_resolve.specs.declared.obligations.Pair.{Pair}
use Rattle.avro_resolve.specs.declared.obligations.Obligation.{Obligation}
use Rattle.avro_resolve.specs.Table.{clash_of, obligations, row}
use Rattle.avro_resolve.specs.Trails.{trail_from}
use Rattle.reg_existence.proofs.FirstTrail.{map_of_some, some_of_map}

-- ---- tests of lists

or_right : (a b : Bool) → b ≡ true → (a || b) ≡ true
or_right true b e = refl
or_right false b e = e

or_left : (a b : Bool) → a ≡ true → (a || b) ≡ true
or_left true b e = refl
or_left false b e = cc

or_cases : (a b : Bool) → (a || b) ≡ true → (a ≡ true) ⊎ (b ≡ true)
or_cases true b e = inl refl
or_cases false b e = inr e

any_by : {X : Type 0} (test : X → Bool) (xs : List X) (k : ℕ) (x : X) → slice_get xs k ≡ Some x → test x ≡ true → list_any test xs ≡ true
any_by test [] k x e passes = cc
any_by test (y ∷ xs) zero x e passes = let same : y ≡ x = cc in or_left (test y) (list_any test xs) (ap test same ∙ passes)
any_by test (y ∷ xs) (suc k) x e passes = or_right (test y) (list_any test xs) (any_by test xs k x e passes)

-- one that passes, with its place
abbrev Passes : {X : Type 0} → (X → Bool) → List X → Type 0
Passes {X} test xs = (k : ℕ) × (x : X) × (slice_get xs k ≡ Some x) × (test x ≡ true)

any_at : {X : Type 0} (test : X → Bool) (xs : List X) → list_any test xs ≡ true → Passes test xs
any_at test [] e = cc
any_at test (y ∷ xs) e = elim (or_cases (test y) (list_any test xs) e) [
  | inl here ↦ (zero, y, refl, here)
  | inr there ↦ let (k, x, at, passes) = any_at test xs there in (suc k, x, at, passes)
]

-- ---- tests of the numbers below one

-- at how many of them the test fails
abbrev fails : (ℕ → Bool) → ℕ → ℕ
fails f zero = 0
fails f (suc m) = cond (f m) 0 1 + fails f m

abbrev Grows : (f g : ℕ → Bool) → Type 0
Grows f g = (k : ℕ) → f k ≡ true → g k ≡ true

fewer : (f g : ℕ → Bool) → Grows f g → (m : ℕ) → fails g m ≤ fails f m
fewer f g grows zero = omega arith
fewer f g grows (suc m) = go (f m) (g m) (grows m) (fewer f g grows m)
  where
    go : (a b : Bool) → (a ≡ true → b ≡ true) → fails g m ≤ fails f m → cond b 0 1 + fails g m ≤ cond a 0 1 + fails f m
    go true true on le = omega arith
    go true false on le = let no : false ≡ true = on refl in cc
    go false true on le = omega arith
    go false false on le = omega arith

lt_or_last : (k m : ℕ) → k < suc m → (k < m) ⊎ (k ≡ m)
lt_or_last k zero h = inr (omega (arith, h))
lt_or_last zero (suc m) h = inl (omega arith)
lt_or_last (suc k) (suc m) h =
    elim (lt_or_last k m (omega (arith, h))) [ inl less ↦ inl (omega (arith, less)) | inr same ↦ inr (ap suc same) ]

-- what passes the one test below a number passes the other
abbrev Covers : (f g : ℕ → Bool) → ℕ → Type 0
Covers f g m = (k : ℕ) → k < m → g k ≡ true → f k ≡ true

-- a test that passes wherever another does passes at the same numbers, or fails at fewer
same_or_fewer : (f g : ℕ → Bool) → Grows f g → (m : ℕ) → Covers f g m ⊎ (fails g m < fails f m)
same_or_fewer f g grows zero = inl (λ k below e. absurd (omega (arith, below)))
same_or_fewer f g grows (suc m) = elim (go (f m) (g m) (grows m) (same_or_fewer f g grows m) (fewer f g grows m)) [
  | inl both ↦ inl (further both.0 both.1)
  | inr less ↦ inr less
]
  where
    go : (a b : Bool) → (a ≡ true → b ≡ true) → Covers f g m ⊎ (fails g m < fails f m) → fails g m ≤ fails f m
        → ((b ≡ true → a ≡ true) × Covers f g m) ⊎ (cond b 0 1 + fails g m < cond a 0 1 + fails f m)
    go true true on (inl below) le = inl ((λ e. refl), below)
    go true true on (inr less) le = inr (omega (arith, less))
    go true false on below le = let no : false ≡ true = on refl in cc
    go false true on below le = inr (omega (arith, le))
    go false false on (inl below) le = inl ((λ e. e), below)
    go false false on (inr less) le = inr (omega (arith, less))

    further : (g m ≡ true → f m ≡ true) → Covers f g m → Covers f g (suc m)
    further last below k h = elim (lt_or_last k m h) [
      | inl less ↦ below k less
      | inr same ↦ subst (λ j. g j ≡ true → f j ≡ true) (sym same) last
    ]

-- ---- pairs

module _ (r w : List Node) where
  -- whether at most so many hops lead from a pair to a clash
  abbrev pub clashes_within : ℕ → Pair → Bool
  clashes_within zero p = is_some (clash_of r w p)
  clashes_within (suc n) p = is_some (clash_of r w p) || list_any (λ o. clashes_within n o.pair) (obligations r w p)

  at_once : (n : ℕ) (p : Pair) → IsSome (clash_of r w p) → clashes_within n p ≡ true
  at_once zero p clash = clash
  at_once (suc n) p clash = or_left (is_some (clash_of r w p)) (list_any (λ o. clashes_within n o.pair) (obligations r w p)) clash

  by_one : (n : ℕ) (p : Pair) (k : ℕ) (o : Obligation) → slice_get (obligations r w p) k ≡ Some o
      → clashes_within n o.pair ≡ true → clashes_within (suc n) p ≡ true
  by_one n p k o at on =
      or_right (is_some (clash_of r w p)) (list_any (λ o. clashes_within n o.pair) (obligations r w p))
      (any_by (λ o. clashes_within n o.pair) (obligations r w p) k o at on)

  -- a hop more does no harm
  one_more : (n : ℕ) (p : Pair) → clashes_within n p ≡ true → clashes_within (suc n) p ≡ true
  one_more zero p e = at_once 1 p e
  one_more (suc n) p e = elim (or_cases (is_some (clash_of r w p)) (list_any (λ o. clashes_within n o.pair) (obligations r w p)) e) [
    | inl clash ↦ at_once (suc (suc n)) p clash
    | inr there ↦
        let (k, o, at, on) = any_at (λ o. clashes_within n o.pair) (obligations r w p) there in
        by_one (suc n) p k o at (one_more n o.pair on)
  ]

  -- numbers lead from it to a clash
  pub trail_within : (n : ℕ) (p : Pair) → clashes_within n p ≡ true → (ks : List ℕ) × IsSome (trail_from r w p ks)
  trail_within zero p e = ([], map_of_some _ (clash_of r w p) e)
  trail_within (suc n) p e = elim (or_cases (is_some (clash_of r w p)) (list_any (λ o. clashes_within n o.pair) (obligations r w p)) e) [
    | inl clash ↦ ([], map_of_some _ (clash_of r w p) clash)
    | inr there ↦
        let (k, o, at, on) = any_at (λ o. clashes_within n o.pair) (obligations r w p) there in
        let (ks, leads) = trail_within n o.pair on in
        (k ∷ ks, by_obligation p k ks o at leads)
  ]
    where
      by_obligation : (p : Pair) (k : ℕ) (ks : List ℕ) (o : Obligation) → slice_get (obligations r w p) k ≡ Some o
          → IsSome (trail_from r w o.pair ks) → IsSome (trail_from r w p (k ∷ ks))
      by_obligation p k ks o at leads =
          let there : IsSome (option_map (λ (t : Trail). record t { hops = o.hop ∷ t.hops }) (trail_from r w o.pair ks)) =
          map_of_some _ (trail_from r w o.pair ks) leads in
          subst
          (λ (found : Option Obligation).
          IsSome (
          option_and_then (λ o. option_map (λ (t : Trail). record t { hops = o.hop ∷ t.hops }) (trail_from r w o.pair ks)) found))
          (sym at) there

  -- so many hops are enough
  abbrev pub IsEnough : ℕ → Type 0
  IsEnough n = (p : Pair) → clashes_within (suc n) p ≡ true → clashes_within n p ≡ true

  -- then they are, however many lead there
  pub enough : (n : ℕ) → IsEnough n → (ks : List ℕ) (p : Pair) → IsSome (trail_from r w p ks) → clashes_within n p ≡ true
  enough n is [] p leads = at_once n p (some_of_map _ (clash_of r w p) leads)
  enough n is (k ∷ ks) p leads = is p (onward (slice_get (obligations r w p) k) refl leads (λ o on. enough n is ks o.pair on))
    where
      onward : (found : Option Obligation) → slice_get (obligations r w p) k ≡ found
          → IsSome (option_and_then (λ o. option_map (λ (t : Trail). record t { hops = o.hop ∷ t.hops }) (trail_from r w o.pair ks)) found)
          → ((o : Obligation) → IsSome (trail_from r w o.pair ks) → clashes_within n o.pair ≡ true) → clashes_within (suc n) p ≡ true
      onward None at on each = cc
      onward (Some o) at on each = by_one n p k o at (each o (some_of_map _ (trail_from r w o.pair ks) on))

  -- ---- pairs by numbers

  abbrev pair_of : ℕ → Pair
  pair_of k = record { reader = record { index = k / length w }; writer = record { index = k % length w } }

  abbrev number_of : Pair → ℕ
  number_of p = p.reader.index * length w + p.writer.index

  pair_of_number : (p : Pair) → p.writer.index < length w → pair_of (number_of p) ≡ p
  pair_of_number p inside =
      ap (λ i. record { reader = record { index = i }; writer = record { index = number_of p % length w } })
      (div-mul-add p.reader.index (length w) p.writer.index inside)
      ∙ ap (λ j. record { reader = record { index = p.reader.index }; writer = record { index = j } })
      (mod-mul-add p.reader.index (length w) p.writer.index inside)

  -- how many pairs there are
  abbrev count : ℕ
  count = length r * length w

  abbrev passes : ℕ → ℕ → Bool
  passes n k = clashes_within n (pair_of k)

  no_reader : (p : Pair) (m : Option Node) → IsSome (result_err (row r w p None m))
  no_reader p m = refl

  no_writer : (p : Pair) (m : Node) → IsSome (result_err (row r w p (Some m) None))
  no_writer p m = refl

  -- the pairs of types that are there cover all: one of types that aren't clashes at once
  covered : (n : ℕ) → Covers (passes n) (passes (suc n)) count → IsEnough n
  covered n covers p e = go (slice_get r p.reader.index) (slice_get w p.writer.index) refl refl
    where
      go : (i j : Option Node) → slice_get r p.reader.index ≡ i → slice_get w p.writer.index ≡ j → clashes_within n p ≡ true
      go None j is_i is_j =
          at_once n p (
          subst (λ i. IsSome (result_err (row r w p i (slice_get w p.writer.index))))
          (sym is_i) (no_reader p (slice_get w p.writer.index)))
      go (Some i) None is_i is_j =
          at_once n p (
          subst (λ x. IsSome (result_err (row r w p x (slice_get w p.writer.index)))) (sym is_i)
          (subst (λ x. IsSome (result_err (row r w p (Some i) x))) (sym is_j) (no_writer p i)))
      go (Some i) (Some j) is_i is_j =
          let reader : p.reader.index < length r = slice_get_within r p.reader.index i is_i in
          let writer : p.writer.index < length w = slice_get_within w p.writer.index j is_j in
          let below : number_of p < length w * length r = mul-add-lt p.reader.index (length w) p.writer.index (length r) reader writer in
          let same : pair_of (number_of p) ≡ p = pair_of_number p writer in
          ap (clashes_within n) (sym same)
          ∙ covers (number_of p) (omega (arith, below, mul_comm (length r) (length w))) (ap (clashes_within (suc n)) same ∙ e)

  -- with one hop more the same pairs pass, or more of them
  hop_more : (n : ℕ) → Covers (passes n) (passes (suc n)) count ⊎ (fails (passes (suc n)) count < fails (passes n) count)
  hop_more n = same_or_fewer (passes n) (passes (suc n)) (λ k. one_more n (pair_of k)) count

  -- so some time they are the same, and that is enough
  settles : (fuel n : ℕ) → fails (passes n) count ≤ fuel → (m : ℕ) × IsEnough m
  settles zero n le = elim (hop_more n) [ inl covers ↦ (n, covered n covers) | inr less ↦ absurd (omega (arith, le, less)) ]
  settles (suc fuel) n le =
      elim (hop_more n) [ inl covers ↦ (n, covered n covers) | inr less ↦ settles fuel (suc n) (omega (arith, le, less)) ]

  pub some_is_enough : (m : ℕ) × IsEnough m
  some_is_enough = settles (fails (passes 0) count) 0 (omega arith)
