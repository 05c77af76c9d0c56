-- Lists of versions, each with something.
use Rattle.std.proofs.Common.{◌≡◌, ℕ, ◌+◌, ◌-◌, ◌<◌, ◌≤◌, List, length, map, get_or, subst, sym, ap, ◌∙◌, inl, inr, arith}
use Rattle.std.proofs.lemmas.Bool.{cases_lt}
use Rattle.std.proofs.lemmas.Simd.{map-map}
use Rattle.std.proofs.lemmas.List.{get_or-map, length-map}
use Rattle.std.specs.List.{slice_index}
use Rattle.std.specs.List.Sorted.{IsStrictlyIncreasing}
use Rattle.reg_levels.specs.RequiredPairs.{HasRisingVersions}

module _ {X : Type 0} (xs : List (ℕ × X)) where
  abbrev pub versions : List ℕ
  versions = map (λ x. x.0) xs

  module _ {Y : Type 0} (f : X → Y) where
    -- the versions alone are the same where something is told of each
    versions-map : map (λ y. y.0) (map {B = ℕ × Y} (λ x. (x.0, f x.1)) xs) ≡ versions
    versions-map = map-map (λ y. y.0) (λ x. (x.0, f x.1)) xs

    pub rising-map : HasRisingVersions xs → HasRisingVersions (map {B = ℕ × Y} (λ x. (x.0, f x.1)) xs)
    rising-map rise = subst IsStrictlyIncreasing (sym versions-map) rise

    pub rising-unmap : HasRisingVersions (map {B = ℕ × Y} (λ x. (x.0, f x.1)) xs) → HasRisingVersions xs
    rising-unmap rise = subst IsStrictlyIncreasing versions-map rise

  -- the version at a place
  version_at : (i : ℕ) (x : ℕ × X) → i < length xs → x ≡ get_or xs i x → slice_index versions i ≡ x.0
  version_at i x within at = get_or-map (λ y. y.0) xs i x 0 within ∙ ap (λ y. y.0) (sym at)

  module _ (i : ℕ) (a b : ℕ × X) (some : 0 < i) (within : i < length xs) (at_a : a ≡ get_or xs (i - 1) a) (at_b : b ≡ get_or xs i b) where
    before : slice_index versions (i - 1) ≡ a.0
    before = version_at (i - 1) a (omega arith) at_a

    here : slice_index versions i ≡ b.0
    here = version_at i b within at_b

    -- one version more that is greater than the one before it
    pub rising_more : a.0 < b.0 → ((k : ℕ) → k + 1 < i → slice_index versions k < slice_index versions (k + 1))
        → (k : ℕ) → k + 1 < i + 1 → slice_index versions k < slice_index versions (k + 1)
    rising_more less rises k h = elim (cases_lt (k + 1) i) [
      | inl lt ↦ rises k lt
      | inr ge ↦
          let p : slice_index versions k ≡ a.0 = ap (slice_index versions) (omega arith) ∙ before in
          let q : slice_index versions (k + 1) ≡ b.0 = ap (slice_index versions) (omega arith) ∙ here in
          subst (λ n. n < slice_index versions (k + 1)) (sym p) (subst (λ n. a.0 < n) (sym q) less)
    ]

    -- one that isn't
    pub not_rising : b.0 ≤ a.0 → HasRisingVersions xs → ⊥
    not_rising most rise =
        let n = length-map xs (λ x. x.0) in
        let less : slice_index versions (i - 1) < slice_index versions (i - 1 + 1) = rise (i - 1) (omega arith) in
        let q : slice_index versions (i - 1 + 1) ≡ b.0 = ap (slice_index versions) (omega arith) ∙ here in
        let both : a.0 < b.0 = subst (λ n. n < b.0) before (subst (λ n. slice_index versions (i - 1) < n) q less) in
        omega arith
