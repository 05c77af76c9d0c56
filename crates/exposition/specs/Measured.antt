-- What was measured, and how often it came within each bound.
use Rattle.std.specs.Prelude.{ℕ, List, [], ◌∷◌, Bool, true, ◌&&◌, nat_lt}
use Rattle.exposition.specs.declared.label.LabelPair.{LabelPair}

-- labels, rising bounds in millionths, how many were counted up to each bound and above the one before, and above the last, and the
-- sum of all that was measured, in millionths
pub record Measured : Type 0 where
  pub labels : List LabelPair
  pub bounds : List ℕ
  pub counts : List ℕ
  pub sum : ℕ

-- each is below the next
abbrev pub rises : List ℕ → Bool
rises [] = true
rises (n ∷ []) = true
rises (m ∷ n ∷ ns) = nat_lt m n && rises (n ∷ ns)
