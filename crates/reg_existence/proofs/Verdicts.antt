-- There is a verdict on each two schemas.
use Rattle.std.proofs.Common.{◌≡◌, ◌+◌, ◌<◌, ℕ, zero, suc, List, length, Bool, true, false, ◌⊎◌}
use Rattle.std.proofs.Common.{inl, inr, Option, Some, None, IsSome, refl, sym, ◌∙◌, arith}
use Rattle.avro_resolve.specs.avro_schema.declared.node.Node.{Node}
use Rattle.avro_resolve.specs.declared.resolving.Verdict.{Verdict}
use Rattle.avro_resolve.specs.declared.resolving.Verdict.TheVariants.{Compatible, Clash}
use Rattle.avro_resolve.specs.declared.trail.Trail.{Trail}
use Rattle.avro_resolve.specs.Trails.{roots, trail_along, AreCompatible, ComesFirst, IsShown}
use Rattle.avro_resolve.specs.Verdict.{IsVerdict}
use Rattle.reg_existence.proofs.FirstTrail.{First, HasNone, first_of_length}
use Rattle.reg_existence.proofs.Bounded.{clashes_within, enough, some_is_enough, trail_within}

some_value : {A : Type 0} (o : Option A) → IsSome o → (x : A) × (o ≡ Some x)
some_value None e = cc
some_value (Some x) e = (x, refl)

none_unless : {A : Type 0} (o : Option A) → (IsSome o → ⊥) → o ≡ None
none_unless None h = refl
none_unless (Some x) h = absurd (h refl)

order : (a b : ℕ) → (a < b) ⊎ ((a ≡ b) ⊎ (b < a))
order zero zero = inr (inl refl)
order zero (suc b) = inl (omega arith)
order (suc a) zero = inr (inr (omega arith))
order (suc a) (suc b) = elim (order a b) [
  | inl less ↦ inl (omega (arith, less))
  | inr rest ↦ elim rest [ inl same ↦ inr (inl (omega (arith, same))) | inr more ↦ inr (inr (omega (arith, more))) ]
]

module _ (r w : List Node) where
  -- no fewer numbers lead to a clash
  abbrev NoneBelow : ℕ → Type 0
  NoneBelow n = (ls : List ℕ) → length ls < n → IsSome (trail_along r w ls) → ⊥

  -- the first of the fewest numbers is shown
  shown : (n : ℕ) → NoneBelow n → First r w n roots → (t : Trail) × IsShown r w t
  shown n none f = let (t, is) = some_value (trail_along r w f.numbers) f.leads in (t, (f.numbers, is, first))
    where
      first : (ls : List ℕ) → IsSome (trail_along r w ls) → ComesFirst f.numbers ls
      first ls leads = elim (order (length ls) n) [
        | inl fewer ↦ absurd (none ls fewer leads)
        | inr rest ↦ elim rest [
          | inl same ↦ inr (f.long ∙ sym same, f.first ls same leads)
          | inr more ↦ inl (omega (arith, more, f.long))
        ]
      ]

  none_further : (n : ℕ) → NoneBelow n → HasNone r w n roots → NoneBelow (suc n)
  none_further n none here ls below leads = elim (order (length ls) n) [
    | inl fewer ↦ none ls fewer leads
    | inr rest ↦ elim rest [ inl same ↦ here ls same leads | inr more ↦ absurd (omega (arith, more, below)) ]
  ]

  -- where numbers lead to a clash, a trail is shown: as many more than n there are to be tried
  fewest : (more n : ℕ) → NoneBelow n → (ks : List ℕ) → length ks ≡ n + more → IsSome (trail_along r w ks) → (t : Trail) × IsShown r w t
  fewest zero n none ks long leads = elim (first_of_length r w n roots) [
    | inl f ↦ shown n none f
    | inr here ↦ absurd (here ks (omega (arith, long)) leads)
  ]
  fewest (suc more) n none ks long leads = elim (first_of_length r w n roots) [
    | inl f ↦ shown n none f
    | inr here ↦ fewest more (suc n) (none_further n none here) ks (omega (arith, long)) leads
  ]

  -- the roots lead to a clash within so many hops, or no pairs do
  judged : (n : ℕ) → ((ks : List ℕ) → IsSome (trail_along r w ks) → clashes_within r w n roots ≡ true)
      → (b : Bool) → clashes_within r w n roots ≡ b → (verdict : Verdict) × IsVerdict r w verdict
  judged n all true is =
      let (ks, leads) = trail_within r w n roots is in
      let (t, first) = fewest (length ks) 0 (λ ls below leads. absurd (omega (arith, below))) ks (omega arith) leads in
      (Clash t, first)
  judged n all false is = (Compatible, none)
    where
      none : AreCompatible r w
      none ks = none_unless (trail_along r w ks) (λ leads. let yes = all ks leads in cc)

  pub verdict_exists : (verdict : Verdict) × IsVerdict r w verdict
  verdict_exists =
      let (n, is) = some_is_enough r w in judged n (λ ks leads. enough r w n is ks roots leads) (clashes_within r w n roots) refl
