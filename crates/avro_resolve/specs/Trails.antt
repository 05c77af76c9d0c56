-- Trails from the pair of roots to a clash, and the one that is shown.
use Rattle.std.specs.Prelude.{◌≡◌, ◌<◌, ◌↔◌, ℕ, List, [], ◌∷◌, length, ◌⊎◌, Option, Some}
use Rattle.std.specs.Prelude.{None, IsSome, option_map, option_and_then, slice_get}
use Rattle.avro_schema.specs.declared.node.Node.{Node}
use Rattle.avro_resolve.specs.declared.trail.Trail.{Trail}
use Rattle.avro_resolve.specs.declared.obligations.Pair.{Pair}
use Rattle.avro_resolve.specs.declared.obligations.Obligation.{Obligation}
use Rattle.avro_resolve.specs.Table.{clash_of, obligations}

-- the pair of the two schemas as wholes
abbrev pub roots : Pair
roots = record { reader = record { index = 0 }; writer = record { index = 0 } }

-- A list of pairs, each an obligation of the one before, is given by the obligations' numbers.
module _ (r w : List Node) where
  -- the trail from a pair along the obligations of these numbers, if a clash is at their end
  abbrev pub trail_from : Pair → List ℕ → Option Trail
  trail_from p [] = option_map (λ c. record { hops = []; kind = c }) (clash_of r w p)
  trail_from p (k ∷ ks) =
      option_and_then (λ o. option_map (λ (t : Trail). record t { hops = o.hop ∷ t.hops }) (trail_from o.pair ks))
      (slice_get (obligations r w p) k)

  abbrev pub trail_along : List ℕ → Option Trail
  trail_along ks = trail_from roots ks

  abbrev pub IsTrail : Trail → Type 0
  IsTrail t = (ks : List ℕ) × (trail_along ks ≡ Some t)

  -- no list of pairs leads from this one to a clash
  abbrev pub AreCompatibleAt : Pair → Type 0
  AreCompatibleAt p = (ks : List ℕ) → trail_from p ks ≡ None

  abbrev pub AreCompatible : Type 0
  AreCompatible = AreCompatibleAt roots

-- A pair is compatible exactly where it has no clash and each of its obligations is compatible.
abbrev pub AreCompatibleByObligations : List Node → List Node → Type 0
AreCompatibleByObligations r w = (p : Pair) → AreCompatibleAt r w p
    ↔ ((clash_of r w p ≡ None) × ((k : ℕ) (o : Obligation) → slice_get (obligations r w p) k ≡ Some o → AreCompatibleAt r w o.pair))

-- dictionary order
abbrev pub InOrder : List ℕ → List ℕ → Type 0
InOrder [] ls = Unit {0}
InOrder (k ∷ ks) [] = ⊥
InOrder (k ∷ ks) (l ∷ ls) = (k < l) ⊎ ((k ≡ l) × InOrder ks ls)

-- shorter, or as long and not after it in dictionary order
abbrev pub ComesFirst : List ℕ → List ℕ → Type 0
ComesFirst ks ls = (length ks < length ls) ⊎ ((length ks ≡ length ls) × InOrder ks ls)

-- The trail that is shown is a shortest one, and among the shortest the first in dictionary order of the obligations' numbers.
abbrev pub IsShown : List Node → List Node → Trail → Type 0
IsShown r w t = (ks : List ℕ) × (trail_along r w ks ≡ Some t) × ((ls : List ℕ) → IsSome (trail_along r w ls) → ComesFirst ks ls)

-- A hop of a pair names exactly one of its obligations.
abbrev pub HopsNameOne : List Node → List Node → Type 0
HopsNameOne r w = (p : Pair) (k l : ℕ) (a b : Obligation)
    → slice_get (obligations r w p) k ≡ Some a
    → slice_get (obligations r w p) l ≡ Some b
    → a.hop ≡ b.hop
    → k ≡ l
