-- What a line that was taken is to the input that it begins.
use Rattle.std.proofs.Common.{◌≡◌, ℕ, List, [], ◌∷◌, ◌++◌, None, Some, IfSome, OnSome, inl, inr}
use Rattle.std.proofs.Common.{Result, Err, refl, sym, ap, ◌∙◌, append_assoc, append-nil}
use Rattle.std.specs.Prelude.{Option, drop}
use Rattle.std.specs.List.{slice_split, join_with_byte}
use Rattle.std.specs.Io.KnownBytes.{Consumes, Keeps, IsAtEnd}
use Rattle.std.proofs.KnownBytes.{Consumes-nil, Consumes-kept}
use Rattle.std.proofs.lemmas.List.Splits.{slice_split_at, slice_split_none, join_with_byte-slice_split}
use Rattle.reg_records.proofs.Logs.{first_part, line_feeds-none}
use Rattle.reg_records.specs.Device.{faults_of}
use Rattle.reg_records.specs.Line.{is_line_feed}
use Rattle.reg_records.specs.Log.{TakesLastLine}
use Rattle.reg_records.specs.Pieces.{HasNoLineFeed, LeavesLine}
use Rattle.reg_records.specs.TextLine.{text_in, first_text, front_text, after_front, IsTextRefusal}
use Rattle.reg_records.specs.declared.device.Device.{Device}
use Rattle.reg_records.specs.declared.line.LineError.{LineError}
use Rattle.reg_records.specs.declared.line.LineError.TheVariants.{Truncated}
use Rattle.reg_records.specs.declared.text_line.TextLineError.TheVariants.{Line, ReadFault}

-- the parts of an input that begins with a line and its LF
parts_of : (input line rest : List ℕ) → HasNoLineFeed line → input ≡ (line ++ 10 ∷ []) ++ rest
    → slice_split is_line_feed input ≡ line ∷ slice_split is_line_feed rest
parts_of input line rest none e =
    ap (slice_split is_line_feed) (e ∙ append_assoc line (10 ∷ []) rest) ∙ slice_split_at is_line_feed line 10 rest none refl

first_text-of : (line rest : List ℕ) → first_text (line ∷ slice_split is_line_feed rest) ≡ text_in line
first_text-of line rest = let (first, more, e) = first_part rest in ap (λ lines. first_text (line ∷ lines)) e

pub front : (old new : Option (List ℕ)) (line : List ℕ) (r : Result (List ℕ) LineError)
    → HasNoLineFeed line → Consumes old new (line ++ 10 ∷ []) → text_in line ≡ r
    → IfSome old (λ input. (front_text input ≡ r) × (new ≡ Some (after_front input)))
front None new line r none taken says = tt
front (Some input) None line r none taken says = absurd taken
front (Some input) (Some rest) line r none taken says =
    let parts = parts_of input line rest none taken in (
      ap first_text parts ∙ first_text-of line rest ∙ says,
      ap Some (sym (ap (λ lines. join_with_byte 10 (drop 1 lines)) parts ∙ join_with_byte-slice_split 10 rest)),
    )

pub front-unended : (old new : Option (List ℕ)) (line : List ℕ) → HasNoLineFeed line → Consumes old new line → OnSome old (IsAtEnd new)
    → IfSome old (λ input. front_text input ≡ Err Truncated)
front-unended None new line none taken end = tt
front-unended (Some input) None line none taken end = absurd taken
front-unended (Some input) (Some rest) line none taken end =
    let whole : input ≡ line = taken ∙ ap (λ r. line ++ r) end ∙ append-nil line in
    ap front_text whole ∙ ap first_text (slice_split_none is_line_feed line none)

pub front-end : (old new : Option (List ℕ)) → IsAtEnd old → IfSome old (λ input. front_text input ≡ Err Truncated)
front-end None new end = tt
front-end (Some input) new end = ap front_text end

-- at the end nothing is taken
pub nothing_left : (old new : Option (List ℕ)) → IsAtEnd old → Keeps old new → TakesLastLine old new []
nothing_left old new end kept = inr (Consumes-kept old old new [] (Consumes-nil old) kept, at_end old new end kept)
  where
    at_end : (old new : Option (List ℕ)) → IsAtEnd old → Keeps old new → OnSome old (IsAtEnd new)
    at_end None new end kept = tt
    at_end (Some input) None end kept = absurd kept
    at_end (Some input) (Some rest) end kept = kept ∙ end

fault_of : (old new : Option (List ℕ)) (e : LineError)
    → IfSome old (λ input. (front_text input ≡ Err e) × (new ≡ Some (after_front input))) → IfSome old (λ input. front_text input ≡ Err e)
fault_of None new e h = tt
fault_of (Some input) new e h = h.0

pub refused-line : {R : Type 0} (before after : Device R) (old new : Option (List ℕ)) (line : List ℕ) (e : LineError)
    → faults_of after ≡ faults_of before → HasNoLineFeed line → Consumes old new (line ++ 10 ∷ []) → text_in line ≡ Err e
    → IsTextRefusal before after old new (Line e)
refused-line before after old new line e faults none taken says =
    (faults, fault_of old new e (front old new line (Err e) none taken says), line, inl taken, line_feeds-none line none)

pub refused-unended : {R : Type 0} (before after : Device R) (old new : Option (List ℕ)) (line : List ℕ)
    → faults_of after ≡ faults_of before → HasNoLineFeed line → Consumes old new line → OnSome old (IsAtEnd new)
    → IsTextRefusal before after old new (Line Truncated)
refused-unended before after old new line faults none taken end =
    (faults, front-unended old new line none taken end, line, inr (taken, end), line_feeds-none line none)

pub refused-end : {R : Type 0} (before after : Device R) (old new : Option (List ℕ))
    → faults_of after ≡ faults_of before → IsAtEnd old → Keeps old new → IsTextRefusal before after old new (Line Truncated)
refused-end before after old new faults end kept =
    (faults, front-end old new end, [], nothing_left old new end kept, refl)

pub refused-lost : {R : Type 0} (before after : Device R) (old new : Option (List ℕ))
    → LeavesLine before after old new → IsTextRefusal before after old new ReadFault
refused-lost before after old new (lost, began, line, none, taken) = (lost, began, line, taken, line_feeds-none line none)
