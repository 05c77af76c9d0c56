-- What a client took, piece by piece.
use Rattle.std.proofs.Common.{◌≡◌, ◌≤◌, ◌-◌, ◌++◌, ◌∷◌, [], List, ℕ, refl, sym, ap, ◌∙◌, subst, arith, length, take, drop, append-nil}
use Rattle.std.proofs.lemmas.Grind.{flat_map-append}
use Rattle.std.proofs.lemmas.List.{drop-drop, length-drop, take_all}
use Rattle.std.proofs.Math.Seq.{take-add}
use Rattle.reg_connection.specs.Sending.{TakesBytes, TakesPieces}

module _ {S : Type 0} (took : S → List ℕ → S → Type 0) where
  -- one piece more
  pieces-more : (old mid new : S) (pieces : List (List ℕ)) (piece : List ℕ) → TakesPieces took old pieces mid
      → took mid piece new → TakesPieces took old (pieces ++ piece ∷ []) new
  pieces-more old mid new [] piece is taken = (new, subst (λ s. took s piece new) is taken, refl)
  pieces-more old mid new (first ∷ pieces) piece (next, before, rest) taken =
      (next, before, pieces-more next mid new pieces piece rest taken)

  bytes-more : (old mid new : S) (bytes piece : List ℕ) → TakesBytes took old bytes mid → took mid piece new
      → TakesBytes took old (bytes ++ piece) new
  bytes-more old mid new bytes piece (pieces, all, is) taken = (
    pieces ++ piece ∷ [],
    pieces-more old mid new pieces piece all taken,
    flat_map-append (λ p. p) pieces (piece ∷ []) ∙ ap (λ b. b ++ (piece ++ [])) is ∙ ap (λ p. bytes ++ p) (append-nil piece),
  )

  -- bytes from a place on, and then those after them
  pub range-more : (old mid new : S) (bytes : List ℕ) (a m k : ℕ) → a ≤ m → m ≤ k
      → TakesBytes took old (take (m - a) (drop a bytes)) mid → took mid (take (k - m) (drop m bytes)) new
      → TakesBytes took old (take (k - a) (drop a bytes)) new
  range-more old mid new bytes a m k first second all taken =
      let rest = drop a bytes in
      let onwards : drop m bytes ≡ drop (m - a) rest = ap (λ n. drop n bytes) (omega (arith, first)) ∙ sym (drop-drop (m - a) a bytes) in
      let joined : take (m - a) rest ++ take (k - m) (drop m bytes) ≡ take (k - a) rest =
      ap (λ r. take (m - a) rest ++ take (k - m) r) onwards
      ∙ sym (take-add (m - a) (k - m) rest) ∙ ap (λ n. take n rest) (omega (arith, first, second)) in
      subst (λ b. TakesBytes took old b new) joined
      (bytes-more old mid new (take (m - a) rest) (take (k - m) (drop m bytes)) all taken)

  -- none yet
  pub range-none : (old : S) (bytes : List ℕ) (a : ℕ) → TakesBytes took old (take (a - a) (drop a bytes)) old
  range-none old bytes a =
      let none : 0 ≡ a - a = omega arith in
      ([], refl, ap (λ n. take n (drop a bytes)) none)

-- what a connection's client took: a front of what was left, or all
pub left-front : (bytes : List ℕ) (a m : ℕ) → a ≤ m → drop m bytes ≡ drop (m - a) (drop a bytes)
left-front bytes a m first = ap (λ n. drop n bytes) (omega (arith, first)) ∙ sym (drop-drop (m - a) a bytes)

pub left-all : (bytes : List ℕ) (a m : ℕ) → length bytes ≤ m → take (m - a) (drop a bytes) ≡ drop a bytes
left-all bytes a m all = take_all (m - a) (drop a bytes) (omega (arith, all, length-drop a bytes))
