-- Where the first line of some bytes ends, and what it says.
use Rattle.std.proofs.Common.{◌≡◌, ◌+◌, ◌-◌, ◌&&◌, ℕ, true, false, not, cond, List, [], ◌∷◌, ◌++◌}
use Rattle.std.proofs.Common.{length, take, Some, None, Result, Err, refl, ap, ◌∙◌, arith, length-append}
use Rattle.std.proofs.lemmas.Bool.Decides.{nat_tests}
use Rattle.std.proofs.lemmas.List.{take_at}
use Rattle.std.proofs.lemmas.List.Elements.{All-head, All-tail}
use Rattle.std.specs.Prelude.{nat_eq, nat_lt, position}
use Rattle.std.specs.List.{position_or_len}
use Rattle.std.specs.Option.{option_map_or}
use Rattle.std.specs.Result.{result_map_both}
use Rattle.reg_records.specs.Floor.{floor_reading, is_floor_line}
use Rattle.reg_records.specs.Line.{is_line_feed, reading, reading_at_front}
use Rattle.reg_records.specs.Pieces.{HasNoLineFeed}
use Rattle.reg_records.specs.declared.line.LineError.{LineError}
use Rattle.reg_records.specs.declared.line.LineError.TheVariants.{Truncated}
use Rattle.reg_records.specs.declared.log.LogFault.{LogFault}
use Rattle.reg_records.specs.declared.log.LogFault.TheVariants as faults
use Rattle.reg_records.specs.declared.record.Read.{Read}
use Rattle.reg_intake.specs.Intake.{said_at}
use Rattle.reg_intake.specs.declared.incoming.Came.TheVariants.{Floor, Line}

abbrev IsFree : ℕ → Type 0
IsFree b = is_line_feed b ≡ false

len_to_first : (line more : List ℕ) → HasNoLineFeed line → position_or_len is_line_feed (line ++ 10 ∷ more) ≡ length line
len_to_first [] more free = refl
len_to_first (b ∷ line) more free =
    ap (λ t. cond (not t) (1 + position_or_len is_line_feed (line ++ 10 ∷ more)) 0) (All-head IsFree b line free)
    ∙ omega (arith, len_to_first line more (All-tail IsFree b line free))

pub ends_at : (line more : List ℕ) → HasNoLineFeed line → position is_line_feed (line ++ 10 ∷ more) ≡ Some (length line)
ends_at line more free =
    let at = len_to_first line more free in
    let within : nat_lt (length line) (length (line ++ 10 ∷ more)) ≡ true =
    let size = length-append line (10 ∷ more) in grind (arith, nat_tests) in
    ap (λ (n : ℕ). cond (nat_lt n (length (line ++ 10 ∷ more))) (Some n) None) at
    ∙ ap (λ t. cond t (Some (length line)) None) within

-- what a line with its LF says
pub front_reading : (line : List ℕ) → HasNoLineFeed line → reading_at_front (line ++ 10 ∷ []) ≡ reading line
front_reading line free =
    ap (λ found. option_map_or (λ n. reading (take n (line ++ 10 ∷ []))) found (Err Truncated)) (ends_at line [] free)
    ∙ ap reading (take_at line (10 ∷ []) (length line) refl)

-- the bytes before the last one
pub without_end : (line bytes : List ℕ) → bytes ≡ line ++ 10 ∷ [] → take (length bytes - 1) bytes ≡ line
without_end line bytes is =
    ap (λ (l : List ℕ). take (length bytes - 1) l) is
    ∙ take_at line (10 ∷ []) (length bytes - 1) (omega (arith, ap length is, length-append line (10 ∷ [])))

-- a line that says no floor
pub said_plain : (before : ℕ) (line : List ℕ) (is : Result Read LineError)
    → (nat_eq before 0 && is_floor_line line) ≡ false → reading line ≡ is
    → said_at before line ≡ result_map_both Line faults.Line is
said_plain before line is plain reads =
    ap (λ b.
    cond b (result_map_both (λ (floor : ℕ). Floor) (λ (fault : LogFault). fault) (floor_reading line))
    (result_map_both Line faults.Line (reading line))) plain
    ∙ ap (λ r. result_map_both Line faults.Line r) reads

pub said_floor : (before : ℕ) (line : List ℕ) (is : Result ℕ LogFault)
    → (nat_eq before 0 && is_floor_line line) ≡ true → floor_reading line ≡ is
    → said_at before line ≡ result_map_both (λ (floor : ℕ). Floor) (λ (fault : LogFault). fault) is
said_floor before line is begins reads =
    ap (λ b.
    cond b (result_map_both (λ (floor : ℕ). Floor) (λ (fault : LogFault). fault) (floor_reading line))
    (result_map_both Line faults.Line (reading line))) begins
    ∙ ap (λ r. result_map_both (λ (floor : ℕ). Floor) (λ (fault : LogFault). fault) r) reads
