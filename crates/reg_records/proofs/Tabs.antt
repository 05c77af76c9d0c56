-- What a list has before and after its first element that passes a test.
use Rattle.std.proofs.Common.{◌≡◌, ℕ, suc, ◌+◌, ◌<◌, Bool, true, false, cond, not, List, [], ◌∷◌, length, drop, refl, ap, arith}
use Rattle.std.specs.Prelude.{count_by}
use Rattle.std.specs.List.{position_or_len, after_first}
use Rattle.std.proofs.lemmas.List.Sums.{sum_by-cons}

module _ {X : Type 0} (p : X → Bool) where
  abbrev counted : X → ℕ
  counted x = cond (p x) 1 0

  -- none passes where the first that passes is past the end
  pub count_by-none : (xs : List X) → position_or_len p xs ≡ length xs → count_by p xs ≡ 0
  count_by-none [] h = refl
  count_by-none (x ∷ xs) h =
      let first = sum_by-cons counted x xs in
      elim (p x) as (λ b. cond (not b) (1 + position_or_len p xs) 0 ≡ suc (length xs)
      → count_by p (x ∷ xs) ≡ cond b 1 0 + count_by p xs → count_by p (x ∷ xs) ≡ 0) [
        | true ↦ λ e _. absurd (omega arith)
        | false ↦ λ e sum.
            let rest : position_or_len p xs ≡ length xs = omega arith in
            omega (arith, count_by-none xs rest)
      ] h first

  -- the first that passes is one more than those after it
  pub count_by-after_first : (xs : List X) → position_or_len p xs < length xs → count_by p xs ≡ suc (count_by p (after_first p xs))
  count_by-after_first [] h = absurd (omega arith)
  count_by-after_first (x ∷ xs) h =
      let first = sum_by-cons counted x xs in
      elim (p x) as (λ b. cond (not b) (1 + position_or_len p xs) 0 < suc (length xs)
      → count_by p (x ∷ xs) ≡ cond b 1 0 + count_by p xs
      → count_by p (x ∷ xs) ≡ suc (count_by p (drop (cond (not b) (1 + position_or_len p xs) 0 + 1) (x ∷ xs)))) [
        | true ↦ λ e sum. omega arith
        | false ↦ λ e sum.
            let rest : position_or_len p xs < length xs = omega arith in
            let places : (1 + position_or_len p xs) + 1 ≡ suc (position_or_len p xs + 1) = omega arith in
            let same = ap (λ n. count_by p (drop n (x ∷ xs))) places in
            omega (arith, count_by-after_first xs rest, same)
      ] h first
