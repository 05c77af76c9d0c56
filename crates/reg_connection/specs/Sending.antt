-- What a client takes of what is sent.
use Rattle.std.specs.Prelude.{◌≡◌, ℕ, List, [], ◌∷◌}
use Rattle.std.specs.List.{flat_map}

module _ {S : Type 0} (took : S → List ℕ → S → Type 0) where
  -- a client took these pieces, one after the other, and nothing else
  abbrev pub TakesPieces : S → List (List ℕ) → S → Type 0
  TakesPieces old [] new = new ≡ old
  TakesPieces old (piece ∷ pieces) new = (mid : S) × took old piece mid × TakesPieces mid pieces new

  -- a client took these bytes, in some pieces, and no others
  abbrev pub TakesBytes : S → List ℕ → S → Type 0
  TakesBytes old bytes new =
      (pieces : List (List ℕ)) × TakesPieces old pieces new × (flat_map (λ piece. piece) pieces ≡ bytes)
