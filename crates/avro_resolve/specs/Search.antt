-- Private: what the search keeps, the pairs that were reached, in the order in which they were.
use Rattle.std.specs.Prelude.{◌≡◌, ◌<◌, ℕ, ◌+◌, List, [], ◌∷◌, ◌++◌, length, Bool, true, false}
use Rattle.std.specs.Prelude.{Option, Some, None, option_map, option_and_then, slice_get}
use Rattle.std.specs.List.{list_any}
use Rattle.avro_schema.specs.declared.node.Node.{Node}
use Rattle.avro_resolve.specs.declared.trail.Hop.{Hop}
use Rattle.avro_resolve.specs.declared.obligations.Pair.{Pair}
use Rattle.avro_resolve.specs.declared.search.Origin.{Origin}
use Rattle.avro_resolve.specs.declared.search.ReachedPair.{ReachedPair}
use Rattle.avro_resolve.specs.declared.seen.SeenPairs.{SeenPairs}
use Rattle.avro_resolve.specs.Seen.{same_pair, is_seen, IsFair}
use Rattle.avro_resolve.specs.Table.{obligations}

abbrev pub is_reached : List ReachedPair → Pair → Bool
is_reached es p = list_any (λ e. same_pair e.pair p) es

-- the pairs that were seen are those of the entries
pub record AgreesWith (seen : SeenPairs) (es : List ReachedPair) : Type 0 where
  pub same : (p : Pair) → is_seen seen p ≡ is_reached es p
  pub fair : IsFair seen

abbrev pub unless_reached : Bool → List ReachedPair → ReachedPair → List ReachedPair
unless_reached true es e = es
unless_reached false es e = es ++ e ∷ []

-- the entries, and one more unless its pair was reached before
abbrev pub with_entry : List ReachedPair → ReachedPair → List ReachedPair
with_entry es e = unless_reached (is_reached es e.pair) es e

-- by the obligation of that number of the pair at a place
abbrev pub entry_from : ℕ → ℕ → Pair → ReachedPair
entry_from place number p = record { pair = p; from = Some (record { place = place; number = number }) }

-- the entries, and the pairs that the pair at a place owes, numbered from here on
abbrev pub expanded : ℕ → ℕ → List Pair → List ReachedPair → List ReachedPair
expanded place number [] es = es
expanded place number (p ∷ ps) es = expanded place (number + 1) ps (with_entry es (entry_from place number p))

abbrev pub from_at : List ReachedPair → ℕ → Option Origin
from_at es x = option_and_then (λ e. e.from) (slice_get es x)

module _ (r w : List Node) where
  -- the hop of a pair's obligation of that number
  abbrev pub hop_numbered : Pair → ℕ → Option Hop
  hop_numbered p number = option_map (λ o. o.hop) (slice_get (obligations r w p) number)

  abbrev pub hop_at : List ReachedPair → Origin → Option Hop
  hop_at es s = option_and_then (λ e. hop_numbered e.pair s.number) (slice_get es s.place)

  -- a step to place x, by an obligation of an entry before it
  pub record IsStep (es : List ReachedPair) (x : ℕ) (s : Origin) : Type 0 where
    pub earlier : s.place < x
    pub entry : ReachedPair
    pub stands : slice_get es s.place ≡ Some entry
    pub reader : entry.pair.reader.index < length r
    pub writer : entry.pair.writer.index < length w
    pub numbered : s.number < length (obligations r w entry.pair)

  abbrev pub LeadsBack : List ReachedPair → Type 0
  LeadsBack es = (x : ℕ) (s : Origin) → from_at es x ≡ Some s → IsStep es x s

  -- these hops lead from a place back to the roots
  abbrev pub IsWayBack : List ReachedPair → ℕ → List Hop → Type 0
  IsWayBack es x [] = from_at es x ≡ None
  IsWayBack es x (h ∷ hs) = (s : Origin) × (from_at es x ≡ Some s) × (hop_at es s ≡ Some h) × IsWayBack es s.place hs
