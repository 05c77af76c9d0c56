-- What a tail has given of a file.
use Rattle.std.proofs.Common.{◌≡◌, ◌⊎◌, ⊎_elim, ◌≤◌, ◌<◌, ◌+◌, ℕ, suc, cond, false, List, [], ◌∷◌, ◌++◌, length}
use Rattle.std.proofs.Common.{take, drop, nat_eq, refl, sym, ap, ◌∙◌, arith, append_assoc, length-append}
use Rattle.std.proofs.lemmas.Bool.{ne_eqb}
use Rattle.std.proofs.lemmas.List.{drop_at, take-append-drop, take_at}
use Rattle.reg_journal.specs.Lines.{text_of}
use Rattle.reg_records.specs.Log.{log_from}
use Rattle.reg_tail.specs.Front.{BeginsAs, HasNoFloorAbove}
use Rattle.reg_tail.specs.Gathered.{BeginsFrom, Gathers}
use Rattle.reg_tail.specs.Line.{IsPieceRefusal}
use Rattle.reg_tail.specs.Source.{Stand}
use Rattle.reg_tail.specs.Tail.{GoesOn, HasGiven, IsBeginRefusal, front_from, lines_from}
use Rattle.reg_tail.specs.declared.error.TailError.{TailError}
use Rattle.reg_tail.specs.declared.error.TailError.TheVariants.{Line, NoEmptyLine, Floor, ReadFault, SyncFault, WriteFault, OutOfMemory}
use Rattle.reg_tail.specs.declared.front.Front.{Front}
use Rattle.reg_tail.specs.declared.gathered.Gathered.{Gathered}
use Rattle.reg_tail.specs.declared.tail.Tail.{Tail}
use Rattle.reg_tail.proofs.Lines.{parts}
use Rattle.reg_tail.proofs.Texts.{Say-append, lines_from-append, lines_log, next_after-append, text_of-append}

-- ---- the line of the floor

-- how much of it is given
pub given_front : (from : ℕ) (file : List ℕ) (lines : List (List ℕ)) (rest : List ℕ) (len given : ℕ)
    → file ≡ text_of lines ++ rest → len ≡ length (text_of lines)
    → ((0 < from) × (given ≡ 0)) ⊎ ((from ≡ 0) × (given ≡ len)) → take given file ≡ text_of (front_from from lines)
given_front from file lines rest len given is size cases =
    ⊎_elim
    (λ some.
    let other : nat_eq from 0 ≡ false = ne_eqb from 0 (λ none. omega (arith, some.0)) in
    ap (λ k. take k file) some.1 ∙ ap (λ b. text_of (cond b lines [])) (sym other))
    (λ all.
    ap (λ k. take k file) (all.1 ∙ size)
    ∙ ap (take (length (text_of lines))) is
    ∙ take_at (text_of lines) rest (length (text_of lines)) refl
    ∙ ap (λ k. text_of (front_from k lines)) (sym all.0))
    cases

pub fits : (from : ℕ) (file : List ℕ) (front : Front) → BeginsAs file front → (0 < from → front.floor ≤ from) → HasNoFloorAbove from file
fits from file front is within floor above =
    let same : front.floor ≡ floor = is.only floor above.2 in
    let low = within above.0 in
    omega (arith, same, low, above.1)

-- ---- from the beginning on

module _ (asked : ℕ) (file : List ℕ) (begun : Gathered) (is : BeginsFrom asked file begun) where
  pub behind_front : drop begun.tail.place file ≡ is.rest
  behind_front =
      ap (λ k. drop k file) is.place
      ∙ ap (drop (length (text_of is.lines))) is.parts
      ∙ drop_at (text_of is.lines) is.rest (length (text_of is.lines)) refl

  pub has_given : (piece behind : List ℕ) (new : Gathered) → piece ≡ is.rest
      → Gathers piece (10 ∷ behind) begun new → HasGiven new.tail file new.text.items
  has_given piece behind new same go = record {
    lines = is.lines ++ go.lines;
    floor = is.floor;
    read = go.read;
    rest = behind;
    parts =
        is.parts ∙ ap (λ (l : List ℕ). text_of is.lines ++ l) (sym same ∙ go.parts)
        ∙ sym (append_assoc (text_of is.lines) (text_of go.lines) (10 ∷ behind))
        ∙ ap (λ (l : List ℕ). l ++ 10 ∷ behind) (sym (text_of-append is.lines go.lines));
    say = record { front = is.lines; others = go.lines; parts = refl; floor = is.says; say = go.say };
    few = omega (arith, new.tail.few, go.passed.count, is.count, length-append is.lines go.lines);
    given =
        go.given
        ∙ ap (λ (l : List ℕ). l ++ text_of (lines_from begun.tail.from go.lines go.read)) is.given
        ∙ ap (λ k. text_of (front_from asked is.lines) ++ text_of (lines_from k go.lines go.read)) is.from
        ∙ sym (text_of-append (front_from asked is.lines) (lines_from asked go.lines go.read))
        ∙ ap (λ k. text_of (front_from k is.lines ++ lines_from k go.lines go.read)) (sym (go.passed.from ∙ is.from));
    place = omega (
      arith,
      go.passed.place,
      is.place,
      ap length (text_of-append is.lines go.lines),
      length-append (text_of is.lines) (text_of go.lines),
    );
    count = omega (arith, go.passed.count, is.count, length-append is.lines go.lines);
    next = omega (arith, go.passed.next, is.next, go.passed.from, is.from);
  }

  pub begin_refused : (piece : List ℕ) (e : TailError) → piece ≡ is.rest
      → IsPieceRefusal (begun.tail.lines + 1) piece e → IsBeginRefusal asked file e
  begin_refused piece (Line line fault) same bad =
      let number : suc (length is.lines) ≡ begun.tail.lines + 1 = omega (arith, is.count) in (
        is.faults line fault (
            ap (λ n. log_from n (parts is.rest)) number ∙ ap (λ (p : List ℕ). log_from (begun.tail.lines + 1) (parts p)) (sym same) ∙ bad),
        is.fits,
      )
  begin_refused piece NoEmptyLine same bad = (
    record {
      lines = is.lines ++ bad.lines;
      floor = is.floor;
      read = bad.read;
      parts = is.parts ∙ ap (λ (l : List ℕ). text_of is.lines ++ l) (sym same ∙ bad.parts) ∙ sym (text_of-append is.lines bad.lines);
      say = record { front = is.lines; others = bad.lines; parts = refl; floor = is.says; say = bad.say };
      few = omega (arith, bad.few, is.count, length-append is.lines bad.lines);
    },
    is.fits,
  )
  begin_refused piece (Floor floor) same bad = absurd bad
  begin_refused piece ReadFault same bad = tt
  begin_refused piece SyncFault same bad = absurd bad
  begin_refused piece WriteFault same bad = absurd bad
  begin_refused piece OutOfMemory same bad = tt

-- ---- from there on

-- what was gathered behind no text
pub goes_on : (file : List ℕ) (begun new : Gathered) (piece behind : List ℕ)
    → Gathers piece (10 ∷ behind) begun new → piece ≡ drop begun.tail.place file
    → begun.text.items ≡ [] → GoesOn file begun.tail new.tail new.text.items
goes_on file begun new piece behind go is none = record {
  lines = go.lines;
  read = go.read;
  rest = behind;
  parts = sym is ∙ go.parts;
  say = go.say;
  given = go.given ∙ ap (λ (l : List ℕ). l ++ text_of (lines_from begun.tail.from go.lines go.read)) none;
  passed = go.passed;
}

module _ (file before text : List ℕ) (old new : Tail) (seen : List ℕ)
    (has : HasGiven old seen before) (stand : Stand seen file) (on : GoesOn file old new text) where
  front : take old.place file ≡ text_of has.lines
  front =
      ap (λ k. take k file) has.place
      ∙ stand has.lines has.rest (lines_log has.lines has.floor has.read has.say) has.parts
      ∙ ap (take (length (text_of has.lines))) has.parts
      ∙ take_at (text_of has.lines) (10 ∷ has.rest) (length (text_of has.lines)) refl

  all : file ≡ text_of (has.lines ++ on.lines) ++ 10 ∷ on.rest
  all =
      sym (take-append-drop old.place file)
      ∙ ap (λ (l : List ℕ). l ++ drop old.place file) front
      ∙ ap (λ (l : List ℕ). text_of has.lines ++ l) on.parts
      ∙ sym (append_assoc (text_of has.lines) (text_of on.lines) (10 ∷ on.rest))
      ∙ ap (λ (l : List ℕ). l ++ 10 ∷ on.rest) (sym (text_of-append has.lines on.lines))

  pub given_on : HasGiven new file (before ++ text)
  given_on = record {
    lines = has.lines ++ on.lines;
    floor = has.floor;
    read = has.read ++ on.read;
    rest = on.rest;
    parts = all;
    say = record {
      front = has.say.front;
      others = has.say.others ++ on.lines;
      parts = ap (λ (l : List (List ℕ)). l ++ on.lines) has.say.parts ∙ append_assoc has.say.front has.say.others on.lines;
      floor = has.say.floor;
      say = Say-append has.say.others on.lines has.read on.read has.say.say on.say;
    };
    few = omega (arith, new.few, on.passed.count, has.count, length-append has.lines on.lines);
    given =
        ap (λ (l : List ℕ). l ++ text) has.given
        ∙ ap (λ (l : List ℕ). text_of (front_from old.from has.say.front ++ lines_from old.from has.say.others has.read) ++ l) on.given
        ∙ sym (
        text_of-append (front_from old.from has.say.front ++ lines_from old.from has.say.others has.read)
        (lines_from old.from on.lines on.read))
        ∙ ap text_of (
        append_assoc (front_from old.from has.say.front)
        (lines_from old.from has.say.others has.read) (lines_from old.from on.lines on.read))
        ∙ ap (λ (l : List (List ℕ)). text_of (front_from old.from has.say.front ++ l))
        (sym (lines_from-append old.from has.say.others on.lines has.read on.read has.say.say))
        ∙ ap (λ k. text_of (front_from k has.say.front ++ lines_from k (has.say.others ++ on.lines) (has.read ++ on.read)))
        (sym on.passed.from);
    place = omega (
      arith,
      on.passed.place,
      has.place,
      ap length (text_of-append has.lines on.lines),
      length-append (text_of has.lines) (text_of on.lines),
    );
    count = omega (arith, on.passed.count, has.count, length-append has.lines on.lines);
    next = omega (arith, on.passed.next, on.passed.from, has.next, next_after-append has.read on.read);
  }
