-- Numbers in decimal digits, counted in millionths.
use Rattle.std.specs.Prelude.{ℕ, zero, suc, ◌+◌, ◌*◌, ◌/◌, ◌%◌, List, [], ◌∷◌, ◌++◌, ◌==◌, decimal, if◌then◌else◌}

-- how many millionths a whole number has
abbrev pub whole : ℕ → ℕ
whole n = n * 1000000

-- the digits of so many millionths, in so many places, without the zeros at the end: ten times the rest has the next digit
unfoldable pub places : ℕ → ℕ → List ℕ
places zero rest = []
places (suc k) rest = if rest == 0 then [] else (48 + rest * 10 / 1000000) ∷ places k (rest * 10 % 1000000)

-- a point and the fraction, or nothing where there is none
unfoldable pub fraction : ℕ → List ℕ
fraction millionths = if millionths == 0 then [] else 46 ∷ places 6 millionths

-- so many millionths: the whole part, and the fraction
unfoldable pub number_text : ℕ → List ℕ
number_text millionths = decimal (millionths / 1000000) ++ fraction (millionths % 1000000)
