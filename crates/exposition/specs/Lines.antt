-- The lines of the text format.
use Rattle.std.specs.Prelude.{ℕ, List, [], ◌∷◌, ◌++◌, true, false, codes, flat_map}
use Rattle.exposition.specs.declared.label.LabelPair.{LabelPair}
use Rattle.exposition.specs.Escapes.{escaped}
use Rattle.exposition.specs.Numbers.{number_text}

-- what the samples of a metric mean
pub data Kind : Type 0 where
  counter : Kind
  gauge : Kind
  histogram : Kind

abbrev pub kind_text : Kind → List ℕ
kind_text counter = codes "counter"
kind_text gauge = codes "gauge"
kind_text histogram = codes "histogram"

-- what a metric means, of which kind it is, or a number of it, in millionths
pub data Line : Type 0 where
  help_of : List ℕ → List ℕ → Line
  type_of : List ℕ → Kind → Line
  sample_of : List ℕ → List LabelPair → ℕ → Line

-- name="value"
abbrev pub label_text : LabelPair → List ℕ
label_text label = label.name ++ (codes "=\"" ++ (escaped true label.value ++ codes "\""))

-- labels in braces, parted by commas; nothing where there is none
abbrev pub labels_text : List LabelPair → List ℕ
labels_text [] = []
labels_text (label ∷ labels) = codes "{" ++ (label_text label ++ (flat_map (λ l. 44 ∷ label_text l) labels ++ codes "}"))

-- a line, without its LF
abbrev pub line_text : Line → List ℕ
line_text (help_of name text) = codes "# HELP " ++ (name ++ (codes " " ++ escaped false text))
line_text (type_of name kind) = codes "# TYPE " ++ (name ++ (codes " " ++ kind_text kind))
line_text (sample_of name labels number) = name ++ (labels_text labels ++ (codes " " ++ number_text number))

-- lines, each with its LF
abbrev pub lines_text : List Line → List ℕ
lines_text lines = flat_map (λ line. line_text line ++ codes "\n") lines
