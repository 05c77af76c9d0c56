-- Which lines and which pages are of the text format.
use Rattle.std.specs.Prelude.{◌≡◌, ◌<◌, ◌+◌, ◌^◌, ℕ, List, Bool, IsTrue, All, length, sum}
use Rattle.std.specs.List.{list_all}
use Rattle.exposition.specs.declared.label.LabelPair.{LabelPair}
use Rattle.exposition.specs.declared.page.Family.{Family}
use Rattle.exposition.specs.declared.page.Sample.{Sample}
use Rattle.exposition.specs.declared.page.Samples.{Samples}
use Rattle.exposition.specs.declared.page.Samples.TheVariants.{Counter, Gauge, Histogram}
use Rattle.exposition.specs.Lines.{Line, help_of, type_of, sample_of}
use Rattle.exposition.specs.Measured.{Measured, rises}
use Rattle.exposition.specs.Names.{is_label_name, is_name, is_word}
use Rattle.exposition.specs.Numbers.{whole}

-- the labels' names are words
abbrev pub have_words : List LabelPair → Bool
have_words labels = list_all (λ label. is_word label.name) labels

-- a number in millionths that has at most 64 digits
abbrev pub IsShort : ℕ → Type 0
IsShort number = number < 10 ^ 64

-- a line of the format: the metric's name is a name, the labels' names are words, and the number is short
abbrev pub IsLine : Line → Type 0
IsLine (help_of name text) = IsTrue (is_name name)
IsLine (type_of name kind) = IsTrue (is_name name)
IsLine (sample_of name labels number) = IsTrue (is_name name) × IsTrue (have_words labels) × IsShort number

-- the labels' names are those of labels: no other label is called `le`
abbrev pub have_names : List LabelPair → Bool
have_names labels = list_all (λ label. is_label_name label.name) labels

abbrev pub IsSample : Sample → Type 0
IsSample s = IsTrue (have_names s.labels) × IsShort s.number

-- the bounds rise, there is a count for each and one more, and the numbers are short
pub record IsSeries (s : Measured) : Type 0 where
  pub labels : IsTrue (have_names s.labels)
  pub rising : IsTrue (rises s.bounds)
  pub counted : length s.counts ≡ length s.bounds + 1
  pub bounds : All IsShort s.bounds
  pub count : IsShort (whole (sum s.counts))
  pub sum : IsShort s.sum

abbrev pub AreSamples : Samples → Type 0
AreSamples (Counter samples) = All IsSample samples
AreSamples (Gauge samples) = All IsSample samples
AreSamples (Histogram series) = All IsSeries series

abbrev pub IsFamily : Family → Type 0
IsFamily f = IsTrue (is_name f.name) × AreSamples f.samples

abbrev pub IsPage : List Family → Type 0
IsPage page = All IsFamily page
