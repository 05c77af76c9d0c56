-- How a line is read behind others.
use Rattle.std.proofs.Common.{◌≡◌, ◌<◌, ◌+◌, ◌-◌, ◌^◌, ◌&&◌, ℕ, true, false, cond, min, List, [], ◌∷◌, ◌++◌, length}
use Rattle.std.proofs.Common.{take, drop, Result, Ok, Err, refl, sym, ap, subst, ◌∙◌, arith, length-append, append_assoc}
use Rattle.std.specs.Prelude.{nat_eq}
use Rattle.std.specs.Result.{result_map_both}
use Rattle.std.proofs.lemmas.Bool.{and_parts, eqb-true}
use Rattle.std.proofs.lemmas.List.{drop-drop, drop_at, nil_from_length, take_at}
use Rattle.reg_journal.specs.Lines.{Say, SayLog, text_of}
use Rattle.reg_records.proofs.Floors.{of_reading}
use Rattle.reg_records.specs.Device.{counted}
use Rattle.reg_records.specs.Floor.{floor_reading, is_floor_line}
use Rattle.reg_records.specs.Line.{reading}
use Rattle.reg_records.specs.Pieces.{HasNoLineFeed}
use Rattle.reg_records.specs.declared.line.LineError.{LineError}
use Rattle.reg_records.specs.declared.log.LogFault.{LogFault}
use Rattle.reg_records.specs.declared.log.LogFault.TheVariants as faults
use Rattle.reg_records.specs.declared.record.Read.{Read}
use Rattle.reg_intake.specs.Intake.{Comes, HasRead, TakesFront, Unread, said_at}
use Rattle.reg_intake.specs.declared.incoming.Came.{Came}
use Rattle.reg_intake.specs.declared.incoming.Came.TheVariants.{End, Floor, Line, Nothing}

abbrev of_floor : Result ℕ LogFault → Result Came LogFault
of_floor read = result_map_both (λ (floor : ℕ). Floor) (λ (fault : LogFault). fault) read

abbrev of_line : Result Read LineError → Result Came LogFault
of_line read = result_map_both Line faults.Line read

-- what came of a line
abbrev Says : ℕ → List ℕ → Came → Type 0
Says before line (Line r) = reading line ≡ Ok r
Says before line Floor = (before ≡ 0) × (is_floor_line line ≡ true) × (floor : ℕ) × (floor_reading line ≡ Ok floor)
Says before line End = ⊥
Says before line Nothing = ⊥

of_line_is : (before : ℕ) (line : List ℕ) (came : Came) (read : Result Read LineError)
    → reading line ≡ read → of_line read ≡ Ok came → Says before line came
of_line_is before line (Line r) (Ok x) reads is = reads ∙ (let same : ◌≡◌ {A = Result Came LogFault} (Ok (Line x)) (Ok (Line r)) = is in cc)
of_line_is before line Floor (Ok x) reads is = absurd (cc is)
of_line_is before line End (Ok x) reads is = absurd (cc is)
of_line_is before line Nothing (Ok x) reads is = absurd (cc is)
of_line_is before line came (Err e) reads is = absurd (cc is)

of_floor_is : (before : ℕ) (line : List ℕ) (came : Came) (read : Result ℕ LogFault) → before ≡ 0
    → is_floor_line line ≡ true → floor_reading line ≡ read → of_floor read ≡ Ok came → Says before line came
of_floor_is before line (Line r) (Ok x) zero begins reads is = absurd (cc is)
of_floor_is before line Floor (Ok x) zero begins reads is = (zero, begins, x, reads)
of_floor_is before line End (Ok x) zero begins reads is = absurd (cc is)
of_floor_is before line Nothing (Ok x) zero begins reads is = absurd (cc is)
of_floor_is before line came (Err e) zero begins reads is = absurd (cc is)

pub of_said : (before : ℕ) (line : List ℕ) (came : Came) → said_at before line ≡ Ok came → Says before line came
of_said before line came is =
    elim (nat_eq before 0 && is_floor_line line) as (λ b. (nat_eq before 0 && is_floor_line line) ≡ b
    → cond b (of_floor (floor_reading line)) (of_line (reading line)) ≡ Ok came → Says before line came) [
      | true ↦ λ both said.
          of_floor_is before line came (floor_reading line) (eqb-true before 0 (and_parts (nat_eq before 0) (is_floor_line line) both).0)
          (and_parts (nat_eq before 0) (is_floor_line line) both).1 refl said
      | false ↦ λ plain said. of_line_is before line came (reading line) refl said
    ] refl is

Say-append : (lines more : List (List ℕ)) (read next : List Read) → Say lines read → Say more next → Say (lines ++ more) (read ++ next)
Say-append [] more [] next say then = then
Say-append [] more (r ∷ read) next say then = absurd say
Say-append (line ∷ lines) more [] next say then = absurd say
Say-append (line ∷ lines) more (r ∷ read) next say then = (say.0, say.1, say.2, Say-append lines more read next say.3 then)

text_of-append : (lines more : List (List ℕ)) → text_of (lines ++ more) ≡ text_of lines ++ text_of more
text_of-append [] more = refl
text_of-append (line ∷ lines) more =
    ap (λ (l : List ℕ). line ++ 10 ∷ l) (text_of-append lines more) ∙ sym (append_assoc line (10 ∷ text_of lines) (text_of more))

SayLog-more : (lines : List (List ℕ)) (floor : ℕ) (read : List Read) (line : List ℕ) (r : Read) → SayLog lines floor read
    → 0 < length line → HasNoLineFeed line → reading line ≡ Ok r → SayLog (lines ++ line ∷ []) floor (read ++ r ∷ [])
SayLog-more lines floor read line r s some free says = record {
  front = s.front;
  others = s.others ++ line ∷ [];
  parts = ap (λ (l : List (List ℕ)). l ++ line ∷ []) s.parts ∙ append_assoc s.front s.others (line ∷ []);
  floor = s.floor;
  say = Say-append s.others (line ∷ []) read (r ∷ []) s.say (some, free, says, tt);
}

say_nothing : (lines : List (List ℕ)) (read : List Read) → Say lines read → length lines ≡ 0 → read ≡ []
say_nothing [] [] say none = refl
say_nothing [] (r ∷ read) say none = absurd say
say_nothing (line ∷ lines) read say none = absurd (omega (arith, none))

-- no lines say nothing
no_lines : (lines : List (List ℕ)) (floor : ℕ) (read : List Read) → SayLog lines floor read → length lines ≡ 0 → read ≡ []
no_lines lines floor read s none = say_nothing s.others read s.say (omega (arith, ap length s.parts, length-append s.front s.others, none))

-- the line behind others
behind : (text : List ℕ) (lines : List (List ℕ)) (bytes line rest : List ℕ) → text ≡ text_of lines ++ bytes → bytes ≡ line ++ 10 ∷ rest
    → text ≡ text_of (lines ++ line ∷ []) ++ rest
behind text lines bytes line rest parts is =
    parts
    ∙ ap (λ (l : List ℕ). text_of lines ++ l) (is ∙ sym (append_assoc line (10 ∷ []) rest))
    ∙ sym (append_assoc (text_of lines) (line ++ 10 ∷ []) rest)
    ∙ ap (λ (l : List ℕ). l ++ rest) (sym (text_of-append lines (line ∷ [])))

counts : (n : ℕ) (m : ℕ) → m ≡ min n (2 ^ 64 - 1) → counted m ≡ min (n + 1) (2 ^ 64 - 1)
counts n m is = omega (arith, is)

module _ (text : List ℕ) (read : List Read) (s : Unread) (line rest : List ℕ) (is : s.bytes ≡ line ++ 10 ∷ rest)
    (free : HasNoLineFeed line) (some : 0 < length line) (has : HasRead text read s) where
  abbrev new : Unread
  new = record { bytes = rest; count = counted s.count }

  takes : TakesFront s new
  takes = record { line = line; parts = is; count = refl }

  more : length (has.lines ++ line ∷ []) ≡ length has.lines + 1
  more = length-append has.lines (line ∷ [])

  has_line : (r : Read) → reading line ≡ Ok r → HasRead text (read ++ r ∷ []) new
  has_line r says = record {
    lines = has.lines ++ line ∷ [];
    floor = has.floor;
    parts = behind text has.lines s.bytes line rest has.parts is;
    say = SayLog-more has.lines has.floor read line r has.say some free says;
    count = omega (arith, has.count, more);
  }

  has_floor : (floor : ℕ) → s.count ≡ 0 → is_floor_line line ≡ true
      → floor_reading line ≡ Ok floor → HasRead text read new × TakesFront s new × (s.count ≡ 0)
  has_floor floor zero begins says =
      let none : length has.lines ≡ 0 = omega (arith, has.count, zero) in
      let empty : has.lines ≡ [] = nil_from_length has.lines none in
      let nothing : read ≡ [] = no_lines has.lines has.floor read has.say none in (
        record {
          lines = line ∷ [];
          floor = floor;
          parts = behind text [] s.bytes line rest (has.parts ∙ ap (λ (l : List (List ℕ)). text_of l ++ s.bytes) empty) is;
          say = record {
            front = line ∷ [];
            others = [];
            parts = refl;
            floor = of_reading line floor begins says;
            say = subst (λ (l : List Read). Say [] l) (sym nothing) tt;
          };
          count = omega (arith, zero);
        },
        takes,
        zero,
      )

  by_kind : (came : Came) → Says s.count line came → Comes text read s came new
  by_kind (Line r) says = (has_line r says, takes)
  by_kind Floor says = has_floor says.2 says.0 says.1 says.3
  by_kind End says = absurd says
  by_kind Nothing says = absurd says

  pub comes : (came : Came) (after : Unread) → said_at s.count line ≡ Ok came → after ≡ new → Comes text read s came after
  comes came after said same = subst (λ (u : Unread). Comes text read s came u) (sym same) (by_kind came (of_said s.count line came said))

-- the line with its LF, and what is left behind it
pub front_line : (bytes line rest : List ℕ) (len : ℕ) → bytes ≡ line ++ 10 ∷ rest
    → len ≡ length line → take (len + 1) bytes ≡ line ++ 10 ∷ []
front_line bytes line rest len is size =
    ap (λ (l : List ℕ). take (len + 1) l) (is ∙ sym (append_assoc line (10 ∷ []) rest))
    ∙ take_at (line ++ 10 ∷ []) rest (len + 1) (omega (arith, size, length-append line (10 ∷ [])))

pub left_behind : (held line rest : List ℕ) (passed len : ℕ) → drop passed held ≡ line ++ 10 ∷ rest
    → len ≡ length line → drop (passed + (len + 1)) held ≡ rest
left_behind held line rest passed len is size =
    sym (drop-drop (len + 1) passed held)
    ∙ ap (λ (l : List ℕ). drop (len + 1) l) (is ∙ sym (append_assoc line (10 ∷ []) rest))
    ∙ drop_at (line ++ 10 ∷ []) rest (len + 1) (omega (arith, size, length-append line (10 ∷ [])))
