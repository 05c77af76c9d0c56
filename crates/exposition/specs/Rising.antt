-- The buckets of a histogram rise.
use Rattle.std.specs.Prelude.{◌≤◌, ℕ, List, [], ◌∷◌, sum}
use Rattle.exposition.specs.Lines.{Line, help_of, type_of, sample_of}
use Rattle.exposition.specs.Measured.{Measured}
use Rattle.exposition.specs.Numbers.{whole}
use Rattle.exposition.specs.Page.{bucket_lines}

-- a sample's number
abbrev pub number_of : Line → ℕ
number_of (help_of name text) = 0
number_of (type_of name kind) = 0
number_of (sample_of name labels number) = number

-- the first number is at least so much, each other one at least the one before, and the last one at most so much
abbrev pub RisesBetween : ℕ → ℕ → List Line → Type 0
RisesBetween low high [] = low ≤ high
RisesBetween low high (line ∷ lines) = (low ≤ number_of line) × RisesBetween (number_of line) high lines

-- up to the count, which is also that of the bucket without a bound
abbrev pub BucketsRise : Type 0
BucketsRise = (name : List ℕ) (s : Measured) → RisesBetween 0 (whole (sum s.counts)) (bucket_lines name s.labels 0 s.bounds s.counts)
