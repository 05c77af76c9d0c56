-- How many LFs lines have.
use Rattle.std.proofs.Common.{◌≡◌, ℕ, Bool, false, List, [], ◌∷◌, length, refl, ap, sym}
use Rattle.std.proofs.Common.{subst, ◌∙◌, arith, length-append, count_by, if◌then◌else◌}
use Rattle.std.proofs.lemmas.List.Elements.{All-head, All-tail}
use Rattle.std.proofs.lemmas.List.Sums.{sum_by-append, sum_by-cons}
use Rattle.reg_journal.specs.Lines.{Say, SayLog, SaysFloor, text_of}
use Rattle.reg_records.proofs.Floors.{one_line}
use Rattle.reg_records.specs.Line.{is_line_feed}
use Rattle.reg_records.specs.Pieces.{HasNoLineFeed}
use Rattle.reg_records.specs.declared.record.Read.{Read}
use Rattle.reg_compaction.proofs.Fronts.{Say-length, text_of-append}

none_in : (line : List ℕ) → HasNoLineFeed line → count_by is_line_feed line ≡ 0
none_in [] free = refl
none_in (b ∷ line) free =
    let here : is_line_feed b ≡ false = All-head (λ x. is_line_feed x ≡ false) b line free in
    omega (
      arith,
      sum_by-cons (λ x. if is_line_feed x then 1 else 0) b line,
      ap {B = ℕ} (λ (t : Bool). if t then 1 else 0) here,
      none_in line (All-tail (λ x. is_line_feed x ≡ false) b line free),
    )

-- a line more has one LF more
lf_counted : (lines : List (List ℕ)) (read : List Read) → Say lines read → count_by is_line_feed (text_of lines) ≡ length read
lf_counted [] [] say = refl
lf_counted [] (r ∷ read) say = absurd say
lf_counted (line ∷ lines) [] say = absurd say
lf_counted (line ∷ lines) (r ∷ read) say =
    let rest = text_of lines in
    omega (
      arith,
      sum_by-append (λ b. if is_line_feed b then 1 else 0) line (10 ∷ rest),
      sum_by-cons (λ b. if is_line_feed b then 1 else 0) 10 rest,
      none_in line say.1,
      lf_counted lines read say.3,
    )

front_counted : (front : List (List ℕ)) (floor : ℕ) → SaysFloor front floor → count_by is_line_feed (text_of front) ≡ length front
front_counted [] floor is = refl
front_counted (line ∷ []) floor is =
    let free : HasNoLineFeed line = subst HasNoLineFeed (sym is.0) (one_line floor is.1) in
    omega (arith, sum_by-append (λ b. if is_line_feed b then 1 else 0) line (10 ∷ []), none_in line free)
front_counted (line ∷ next ∷ front) floor is = absurd is

pub all_counted : (lines : List (List ℕ)) (floor : ℕ) (read : List Read)
    → SayLog lines floor read → count_by is_line_feed (text_of lines) ≡ length lines
all_counted lines floor read s =
    let split = ap text_of s.parts ∙ text_of-append s.front s.others in
    omega (
      arith,
      ap (λ (t : List ℕ). count_by is_line_feed t) split,
      sum_by-append (λ b. if is_line_feed b then 1 else 0) (text_of s.front) (text_of s.others),
      front_counted s.front floor s.floor,
      lf_counted s.others read s.say,
      Say-length s.others read s.say,
      ap length s.parts,
      length-append s.front s.others,
    )
