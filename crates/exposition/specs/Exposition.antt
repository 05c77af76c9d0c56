-- The text format: which texts are of it.
use Rattle.std.specs.Prelude.{◌≡◌, ◌⊎◌, ℕ, List, ◌∷◌, ◌++◌, All, codes, flat_map}
use Rattle.exposition.specs.Lawful.{IsLine}
use Rattle.exposition.specs.Lines.{Kind, counter, gauge, histogram, Line, help_of, type_of, sample_of, lines_text}

-- the line is a sample of the metric: under its name, or of a histogram under that with one of three endings
abbrev pub IsSampleOf : List ℕ → Kind → Line → Type 0
IsSampleOf name kind (help_of other text) = ⊥
IsSampleOf name kind (type_of other another) = ⊥
IsSampleOf name counter (sample_of other labels number) = other ≡ name
IsSampleOf name gauge (sample_of other labels number) = other ≡ name
IsSampleOf name histogram (sample_of other labels number) =
    (other ≡ name ++ codes "_bucket") ⊎ ((other ≡ name ++ codes "_sum") ⊎ (other ≡ name ++ codes "_count"))

-- all lines of a metric: what it means, its kind, and then its samples
abbrev pub IsBlock : List Line → Type 0
IsBlock lines = (name : List ℕ) × (text : List ℕ) × (kind : Kind) × (samples : List Line)
    × (lines ≡ help_of name text ∷ type_of name kind ∷ samples) × All (IsSampleOf name kind) samples

-- the lines of each metric stand together
abbrev pub AreBlocks : List Line → Type 0
AreBlocks lines = (blocks : List (List Line)) × All IsBlock blocks × (lines ≡ flat_map (λ block. block) blocks)

-- lines of the format, each with its LF, those of each metric together
abbrev pub IsExposition : List ℕ → Type 0
IsExposition text = (lines : List Line) × All IsLine lines × AreBlocks lines × (text ≡ lines_text lines)
