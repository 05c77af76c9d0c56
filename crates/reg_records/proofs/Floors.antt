-- The first line of a log, where it begins as a floor's does.
use Rattle.std.proofs.Common.{◌≡◌, ◌==◌, ◌&&◌, nat_eq, ℕ, ◌-◌, ◌≤◌, ◌<◌, ◌^◌, Bool, true, false, cond, not, List, [], ◌∷◌, ◌++◌, length}
use Rattle.std.proofs.Common.{take, drop, nat_lt, decimal, codes, Option, Some, None, Result, Ok, Err, inl, inr, refl, sym, ap, ◌∙◌}
use Rattle.std.proofs.Common.{arith, length-append}
use lib.Utf8.{encode}
use Rattle.std.specs.Option.{option_map_or}
use Rattle.std.specs.Str.{IsAscii, is_utf8, chars}
use Rattle.std.specs.Cmp.Lexicographic.{pointwise}
use Rattle.std.specs.List.{slice_split, starts_with}
use Rattle.std.proofs.lemmas.Bool.{and_parts, cases_lt, le-ltb}
use Rattle.std.proofs.lemmas.Bool.Decides.{Decides-eqb}
use Rattle.std.proofs.lemmas.Fmt.{decimal_is_IsNumeral, length-decimal-le}
use Rattle.std.proofs.lemmas.List.{get_or_past, take_rest}
use Rattle.std.proofs.lemmas.Slice.Eq.{starts_is}
use Rattle.std.proofs.lemmas.Str.{IsUtf8-from_ascii, is_utf8-from_IsUtf8}
use Rattle.std.proofs.lemmas.Str.Parse.{digit_at}
use Rattle.reg_records.specs.Floor.{floor_mark, floor_reading, floor_text, is_floor_line}
use Rattle.reg_records.specs.Line.{is_free_of, is_line_feed, is_tab, offset_of, reading, reading_of}
use Rattle.reg_records.specs.Pieces.{HasNoLineFeed}
use Rattle.reg_records.specs.declared.limits.TheConstants.{LINE_LIMIT, OFFSET_LIMIT}
use Rattle.reg_records.specs.declared.line.LineError.{LineError}
use Rattle.reg_records.specs.declared.line.LineError.TheVariants.{BadOffset, BadTabs, BadUtf8, TooLong}
use Rattle.reg_records.specs.declared.log.LogFault.{LogFault}
use Rattle.reg_records.specs.declared.log.LogFault.TheVariants.{BadFloor, Line}
use Rattle.reg_records.specs.declared.record.Read.{Read}
use Rattle.reg_records.proofs.Controls.{are_shown-decimal, is_free_of-are_shown}
use Rattle.reg_records.proofs.Fields.{All-free, not_true-false}
use Rattle.reg_records.proofs.Grammar.{decimal-offset_of, offset_of-decimal}

-- what stands behind `floor` and the TAB
abbrev pub floor_field : List ℕ → List ℕ
floor_field line = drop (length floor_mark) line

pub of_mark : (line : List ℕ) → is_floor_line line ≡ true → line ≡ floor_mark ++ floor_field line
of_mark line begins = (starts_is Decides-eqb line floor_mark (is_floor_line line) refl).0 begins

pub is_floor_line-mark : (field : List ℕ) → is_floor_line (floor_mark ++ field) ≡ true
is_floor_line-mark field = (starts_is Decides-eqb (floor_mark ++ field) floor_mark (is_floor_line (floor_mark ++ field)) refl).1 field refl

is_utf8-mark : (field : List ℕ) → is_utf8 (floor_mark ++ field) ≡ is_utf8 field
unfolding is_utf8 chars encode
is_utf8-mark [] = refl
is_utf8-mark (b ∷ field) = refl

-- the reading of a line that is short enough
pub reading-field : (line : List ℕ) → is_floor_line line ≡ true → nat_lt LINE_LIMIT (length line) ≡ false
    → floor_reading line
    ≡ cond (not (is_utf8 (floor_field line))) (Err (Line BadUtf8)) (option_map_or Ok (offset_of (floor_field line)) (Err BadFloor))
reading-field line begins short =
    let utf8 : is_utf8 line ≡ is_utf8 (floor_field line) = ap is_utf8 (of_mark line begins) ∙ is_utf8-mark (floor_field line) in
    ap (λ b.
    cond b (Err (Line TooLong))
    (cond (not (is_utf8 line)) (Err (Line BadUtf8)) (option_map_or Ok (offset_of (floor_field line)) (Err BadFloor)))) short
    ∙ ap (λ b. cond (not b) (Err (Line BadUtf8)) (option_map_or Ok (offset_of (floor_field line)) (Err BadFloor))) utf8

-- the slice behind the mark
pub field-slice : (line : List ℕ) → take (length line - length floor_mark) (floor_field line) ≡ floor_field line
field-slice line = take_rest line (length floor_mark)

-- ---- both ways

if_said : (b : Bool) (fault : LogFault) (next : Result ℕ LogFault) (floor : ℕ) → cond b (Err fault) next ≡ Ok floor → next ≡ Ok floor
if_said true fault next floor e = absurd cc
if_said false fault next floor e = e

is_said : (found : Option ℕ) (floor : ℕ) → option_map_or Ok found (Err BadFloor) ≡ Ok floor → found ≡ Some floor
is_said None floor e = absurd cc
is_said (Some n) floor e = cc

pub of_reading : (line : List ℕ) (floor : ℕ) → is_floor_line line ≡ true
    → floor_reading line ≡ Ok floor → (line ≡ floor_text floor) × (floor ≤ OFFSET_LIMIT)
of_reading line floor begins says =
    let found = is_said _ floor (
    if_said (not (is_utf8 line)) (Line BadUtf8) _ floor (if_said (nat_lt LINE_LIMIT (length line)) (Line TooLong) _ floor says)) in
    let (field, fits) = decimal-offset_of (floor_field line) floor found in
    (of_mark line begins ∙ ap (λ f. floor_mark ++ f) field, fits)

is_ascii-decimal : (n : ℕ) → n < 2 ^ 64 → IsAscii (decimal n)
is_ascii-decimal n h = λ i. elim (cases_lt i (length (decimal n))) [
  | inl below ↦ let d = digit_at _ i (decimal_is_IsNumeral n h).0.1 below in omega (arith, d.1)
  | inr past ↦ omega (arith, get_or_past (decimal n) i 0 past)
]

pub floor_reading-text : (floor : ℕ) → floor ≤ OFFSET_LIMIT → floor_reading (floor_text floor) ≡ Ok floor
floor_reading-text floor fits =
    let small : floor < 2 ^ 64 = omega arith in
    let short = le-ltb LINE_LIMIT (length (floor_text floor))
    (omega (arith, length-append floor_mark (decimal floor), length-decimal-le 20 floor (omega arith) (omega arith) small)) in
    let utf8 = is_utf8-from_IsUtf8 _ (IsUtf8-from_ascii _ (is_ascii-decimal floor small)) in
    reading-field (floor_text floor) (is_floor_line-mark (decimal floor)) short
    ∙ ap (λ b. cond (not b) (Err (Line BadUtf8)) (option_map_or Ok (offset_of (decimal floor)) (Err BadFloor))) utf8
    ∙ ap (λ found. option_map_or Ok found (Err BadFloor)) (offset_of-decimal floor fits)

-- the line of a floor holds no LF
pub one_line : (floor : ℕ) → floor ≤ OFFSET_LIMIT → HasNoLineFeed (floor_text floor)
one_line floor fits =
    All-free is_line_feed (floor_text floor) (is_free_of-are_shown 10 (omega arith) (decimal floor) (are_shown-decimal floor (omega arith)))

-- ---- no line that can be read begins as a floor's

no_record : (fields : List (List ℕ)) → (fault : LineError) × (reading_of (codes "floor" ∷ fields) ≡ Err fault)
no_record [] = (BadTabs, refl)
no_record (a ∷ []) = (BadTabs, refl)
no_record (a ∷ b ∷ []) = (BadOffset, refl)
no_record (a ∷ b ∷ c ∷ more) = (BadTabs, refl)

if_read : (b : Bool) (fault : LineError) (next : Result Read LineError) (read : Read) → cond b (Err fault) next ≡ Ok read → next ≡ Ok read
if_read true fault next read e = absurd cc
if_read false fault next read e = e

pub not_floor_line : (line : List ℕ) (read : Read) → reading line ≡ Ok read → is_floor_line line ≡ false
not_floor_line line read says =
    elim (is_floor_line line) as (λ b. is_floor_line line ≡ b → b ≡ false) [
      | true ↦ λ begins.
          let fields : slice_split is_tab line ≡ codes "floor" ∷ slice_split is_tab (floor_field line) =
          ap (slice_split is_tab) (of_mark line begins) in
          let (fault, none) = no_record (slice_split is_tab (floor_field line)) in
          let both : ◌≡◌ {A = Result Read LineError} (Err fault) (Ok read) =
          sym (ap reading_of fields ∙ none)
          ∙ if_read (not (is_utf8 line)) BadUtf8 _ read (if_read (nat_lt LINE_LIMIT (length line)) TooLong _ read says) in
          absurd cc
      | false ↦ λ _. refl
    ] refl

-- ---- the text whose first line it is

seam : (mark line rest : List ℕ) → is_free_of is_line_feed mark ≡ true
    → starts_with nat_eq (line ++ 10 ∷ rest) mark ≡ starts_with nat_eq line mark
seam [] line rest free = refl
seam (m ∷ mark) [] rest free =
    let parts = and_parts (not (m == 10)) _ free in
    ap (λ b. b && pointwise nat_eq mark (take (length mark) rest)) (not_true-false (m == 10) parts.0)
seam (m ∷ mark) (b ∷ line) rest free =
    let parts = and_parts (not (m == 10)) _ free in
    ap (λ t. nat_eq m b && t) (seam mark line rest parts.1)

pub is_floor_line-text : (line rest : List ℕ) → is_floor_line (line ++ 10 ∷ rest) ≡ is_floor_line line
is_floor_line-text line rest = seam floor_mark line rest refl
