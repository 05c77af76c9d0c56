-- Private: how a line is taken from a reader, piece by piece.
use Rattle.std.specs.Prelude.{◌≡◌, ◌≢◌, ℕ, ◌+◌, ◌<◌, List, [], ◌∷◌, ◌++◌, length, All, false, Option, OnSome}
use Rattle.std.specs.Bool.{MatchBool}
use Rattle.std.specs.Io.KnownBytes.{Consumes, Keeps, IsAtEnd}
use Rattle.reg_records.specs.Line.{is_line_feed}
use Rattle.std.specs.declared.io.ErrorKind.TheVariants.{Interrupted}
use Rattle.reg_records.specs.Log.{LosesLine}
use Rattle.reg_records.specs.declared.limits.TheConstants.{LINE_LIMIT}
use Rattle.reg_records.specs.declared.device.Device.{Device}
use Rattle.reg_records.specs.Device.{BeganAfter, Source, Takes, counted, faults_of}
use Rattle.reg_records.specs.declared.pieces.LineBuffer.{LineBuffer}
use Rattle.reg_records.specs.declared.pieces.Piece.{Piece}
use Rattle.reg_records.specs.declared.pieces.Piece.TheVariants.{Ended, More, NoMore, Failed}
use Rattle.reg_records.specs.declared.line_reader.NextLine.{NextLine}
use Rattle.reg_records.specs.declared.line_reader.NextLine.TheVariants as nexts

abbrev pub HasNoLineFeed : List ℕ → Type 0
HasNoLineFeed bytes = All (λ b. is_line_feed b ≡ false) bytes

-- the buffer stands for these bytes: it has them, or there are more than a line may have
abbrev pub Holds : LineBuffer → List ℕ → Type 0
Holds buffer bytes = MatchBool buffer.is_long (LINE_LIMIT < length bytes) (buffer.bytes.items ≡ bytes)

-- whatever the old buffer stands for, the new one stands for that and these bytes
abbrev pub Grows : LineBuffer → LineBuffer → List ℕ → Type 0
Grows old new bytes = (line : List ℕ) → Holds old line → Holds new (line ++ bytes)

-- what one read took
abbrev pub TakesPiece : Option (List ℕ) → Option (List ℕ) → LineBuffer → LineBuffer → Piece → Type 0
TakesPiece old new before after (Ended len) =
    (bytes : List ℕ) × HasNoLineFeed bytes × Consumes old new (bytes ++ 10 ∷ []) × Grows before after bytes × (length bytes + 1 ≡ len)
TakesPiece old new before after (More len) =
    (bytes : List ℕ) × HasNoLineFeed bytes × Consumes old new bytes × Grows before after bytes × (length bytes ≡ len)
TakesPiece old new before after NoMore = IsAtEnd old × Keeps old new × (after ≡ before)
TakesPiece old new before after (Failed kind) = Keeps old new × (after ≡ before)

-- how many bytes it took
abbrev pub piece_len : Piece → ℕ
piece_len (Ended len) = len
piece_len (More len) = len
piece_len NoMore = 0
piece_len (Failed kind) = 0

-- what the reads for one line took: a line and its LF, bytes without LF up to the end, or nothing at the end
abbrev pub TakesLine : Source → Source → NextLine → Type 0
TakesLine old new (nexts.Line buffer) = (line : List ℕ) × HasNoLineFeed line × Takes old new (line ++ 10 ∷ []) × Holds buffer line
TakesLine old new nexts.Unended =
    (line : List ℕ) × HasNoLineFeed line × (0 < length line) × Consumes old.known new.known line × OnSome old.known (IsAtEnd new.known)
TakesLine old new nexts.End = IsAtEnd old.known × Keeps old.known new.known

-- what one read adds to the count of faults: one where it failed, unless it was interrupted
abbrev pub CountsPiece : {R : Type 0} → Device R → Device R → Piece → Type 0
CountsPiece old new (Ended len) = faults_of new ≡ faults_of old
CountsPiece old new (More len) = faults_of new ≡ faults_of old
CountsPiece old new NoMore = faults_of new ≡ faults_of old
CountsPiece old new (Failed kind) = (kind ≡ Interrupted → faults_of new ≡ faults_of old)
    × (kind ≢ Interrupted → faults_of new ≡ counted (faults_of old))

-- no whole line was taken, since the reader was lost, whose reads were counted from the line's front on; what was taken has no LF
abbrev pub LeavesLine : {R : Type 0} → Device R → Device R → Option (List ℕ) → Option (List ℕ) → Type 0
LeavesLine before after old new = LosesLine before after × BeganAfter before after 0 × (line : List ℕ)
    × HasNoLineFeed line × Consumes old new line
