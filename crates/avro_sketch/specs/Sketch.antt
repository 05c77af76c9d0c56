-- The lines of a sketch of a reader's nodes and a writer's.
use Rattle.std.specs.Prelude.{◌≡◌, ℕ, List, ◌++◌, Option, Some, None, codes, if◌then◌else◌}
use Rattle.avro_resolve.specs.avro_schema.declared.node.Node.{Node}
use Rattle.avro_resolve.specs.declared.resolving.Verdict.{Verdict}
use Rattle.avro_resolve.specs.declared.resolving.Verdict.TheVariants.{Compatible, Clash}
use Rattle.avro_resolve.specs.Texts.{trail_text, clash_text}
use Rattle.avro_resolve.specs.Trails.{roots}
use Rattle.avro_resolve.specs.Verdict.{IsVerdict}
use Rattle.avro_data.specs.Value.{Value}
use Rattle.avro_data.specs.Sample.{root, IsSample}
use Rattle.avro_data.specs.Size.{is_too_large}
use Rattle.avro_data.specs.Text.{value_text}
use Rattle.avro_readings.specs.Reads.{reads}

-- what is said of the verdict
abbrev pub verdict_line : Verdict → List ℕ
verdict_line Compatible = codes "compatible\n"
verdict_line (Clash t) = codes "clash at " ++ trail_text t.hops ++ codes ": " ++ clash_text t.kind ++ codes "\n"

-- what is said of a value's reading, if it has one
abbrev pub reading_line : Option Value → List ℕ
reading_line None = codes "unreadable\n"
reading_line (Some read) = if is_too_large read then codes "too large\n" else codes "reads " ++ value_text read ++ codes "\n"

-- what is said of a value of the writer's and of its reading
abbrev pub value_lines : List Node → List Node → Value → List ℕ
value_lines r w v = codes "value " ++ value_text v ++ codes "\n" ++ reading_line (reads r w roots v)

-- what is said of the writer's sample, if it has one
abbrev pub sample_lines : List Node → List Node → Option Value → List ℕ
sample_lines r w None = codes "no finite value\n"
sample_lines r w (Some v) = if is_too_large v then codes "value too large\n" else value_lines r w v

-- the text is the line of the verdict, and then what is said of the writer's sample
pub record IsSketch (r w : List Node) (text : List ℕ) : Type 0 where
  pub verdict : Verdict
  pub is_verdict : IsVerdict r w verdict
  pub sample : Option Value
  pub is_sample : IsSample w root sample
  pub is : text ≡ verdict_line verdict ++ sample_lines r w sample

-- No two schemas have two sketches.
abbrev pub HaveOneSketch : List Node → List Node → Type 0
HaveOneSketch r w = (s t : List ℕ) → IsSketch r w s → IsSketch r w t → s ≡ t
