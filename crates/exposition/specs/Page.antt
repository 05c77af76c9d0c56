-- The lines of a page, and its text.
use Rattle.std.specs.Prelude.{ℕ, ◌+◌, List, [], ◌∷◌, ◌++◌, codes, flat_map, map, sum}
use Rattle.exposition.specs.declared.label.LabelPair.{LabelPair}
use Rattle.exposition.specs.declared.page.Family.{Family}
use Rattle.exposition.specs.declared.page.Sample.{Sample}
use Rattle.exposition.specs.declared.page.Samples.{Samples}
use Rattle.exposition.specs.declared.page.Samples.TheVariants.{Counter, Gauge, Histogram}
use Rattle.exposition.specs.Lines.{Kind, counter, gauge, histogram, Line, help_of, type_of, sample_of, lines_text}
use Rattle.exposition.specs.Measured.{Measured}
use Rattle.exposition.specs.Numbers.{number_text, whole}

-- the label that tells a bucket's bound
abbrev pub bound_label : List ℕ → LabelPair
bound_label bound = record { name = codes "le"; value = bound }

-- a bucket: its bound, and how many came within it
abbrev pub bucket_line : List ℕ → List LabelPair → List ℕ → ℕ → Line
bucket_line name labels bound count = sample_of (name ++ codes "_bucket") (labels ++ (bound_label bound ∷ [])) (whole count)

-- a bucket for each bound: it counts what came within its bound, and so all that came within those before, which is below
abbrev pub bucket_lines : List ℕ → List LabelPair → ℕ → List ℕ → List ℕ → List Line
bucket_lines name labels below [] counts = []
bucket_lines name labels below (bound ∷ bounds) [] = []
bucket_lines name labels below (bound ∷ bounds) (count ∷ counts) =
    bucket_line name labels (number_text bound) (below + count) ∷ bucket_lines name labels (below + count) bounds counts

-- the buckets, with one that has no bound, then the sum and the count
abbrev pub series_lines : List ℕ → Measured → List Line
series_lines name s = bucket_lines name s.labels 0 s.bounds s.counts ++ (bucket_line name s.labels (codes "+Inf") (sum s.counts)
    ∷ sample_of (name ++ codes "_sum") s.labels s.sum ∷ sample_of (name ++ codes "_count") s.labels (whole (sum s.counts)) ∷ [])

abbrev pub sample_line : List ℕ → Sample → Line
sample_line name s = sample_of name s.labels s.number

abbrev pub samples_lines : List ℕ → Samples → List Line
samples_lines name (Counter samples) = map (λ s. sample_line name s) samples
samples_lines name (Gauge samples) = map (λ s. sample_line name s) samples
samples_lines name (Histogram series) = flat_map (λ s. series_lines name s) series

abbrev pub kind_of : Samples → Kind
kind_of (Counter samples) = counter
kind_of (Gauge samples) = gauge
kind_of (Histogram series) = histogram

-- what it means, its kind, and its samples
abbrev pub family_lines : Family → List Line
family_lines f = help_of f.name f.help ∷ type_of f.name (kind_of f.samples) ∷ samples_lines f.name f.samples

-- the lines of all families, one after the other
abbrev pub page_lines : List Family → List Line
page_lines page = flat_map family_lines page

abbrev pub page_text : List Family → List ℕ
page_text page = lines_text (page_lines page)
