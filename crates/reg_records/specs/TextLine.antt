-- Lines that are texts: what stands before an LF, in UTF-8.
use Rattle.std.specs.Prelude.{◌≡◌, ℕ, List, ◌∷◌, length, drop, count_by, nat_lt, Option, IfSome, Result, Ok, Err, if◌then◌else◌}
use Rattle.std.specs.List.{join_with_byte, slice_split}
use Rattle.std.specs.Str.{is_utf8}
use Rattle.std.specs.Io.KnownBytes.{Consumes}
use Rattle.reg_records.specs.Device.{BeganAfter, faults_of}
use Rattle.reg_records.specs.Line.{is_line_feed}
use Rattle.reg_records.specs.Log.{LosesLine, TakesLastLine}
use Rattle.reg_records.specs.declared.device.Device.{Device}
use Rattle.reg_records.specs.declared.limits.TheConstants.{LINE_LIMIT}
use Rattle.reg_records.specs.declared.line.LineError.{LineError}
use Rattle.reg_records.specs.declared.line.LineError.TheVariants.{Truncated, TooLong, BadUtf8}
use Rattle.reg_records.specs.declared.text_line.TextLineError.{TextLineError}
use Rattle.reg_records.specs.declared.text_line.TextLineError.TheVariants as errors

-- the text in a line, or the first fault that it has
abbrev pub text_in : List ℕ → Result (List ℕ) LineError
text_in line = if nat_lt LINE_LIMIT (length line) then Err TooLong else (if is_utf8 line then Ok line else Err BadUtf8)

-- the text in the first of some lines, of which the last has no LF
abbrev pub first_text : List (List ℕ) → Result (List ℕ) LineError
first_text (line ∷ next ∷ lines) = text_in line
first_text lines = Err Truncated

-- the text in the line at the front of an input
abbrev pub front_text : List ℕ → Result (List ℕ) LineError
front_text input = first_text (slice_split is_line_feed input)

-- what stands after that line's LF
abbrev pub after_front : List ℕ → List ℕ
after_front input = join_with_byte 10 (drop 1 (slice_split is_line_feed input))

-- why no text was read: a line's fault, where that line is taken with its LF, or all that was left;
-- a reader's fault only where one was counted or the line took as many reads as it may, counted from its front on
abbrev pub IsTextRefusal : {R : Type 0} → Device R → Device R → Option (List ℕ) → Option (List ℕ) → TextLineError → Type 0
IsTextRefusal before after old new (errors.Line fault) =
    (faults_of after ≡ faults_of before) × IfSome old (λ input. front_text input ≡ Err fault)
    × (taken : List ℕ) × TakesLastLine old new taken × (count_by is_line_feed taken ≡ 0)
IsTextRefusal before after old new errors.ReadFault =
    LosesLine before after × BeganAfter before after 0 × (taken : List ℕ) × Consumes old new taken × (count_by is_line_feed taken ≡ 0)
IsTextRefusal before after old new errors.OutOfMemory = faults_of after ≡ faults_of before
