-- One look behind the other.
use Rattle.std.proofs.Common.{◌≡◌, ℕ, List, [], ◌∷◌, ◌++◌, length, take, arith, cond, true, false, max}
use Rattle.std.proofs.Common.{nat_eq, nat_le, ◌<◌, ◌≤◌, suc, refl, sym, ap, subst, ◌∙◌, append_assoc}
use Rattle.std.proofs.lemmas.Bool.{ne_eqb}
use Rattle.std.proofs.lemmas.Bool.Decides.{nat_tests}
use Rattle.std.proofs.lemmas.List.{take_at}
use Rattle.reg_records.specs.Log.{next_after, offset_in}
use Rattle.reg_journal.specs.Lines.{Say, text_of}
use Rattle.reg_records.specs.declared.record.Read.{Read}
use Rattle.reg_tail.specs.Looks.{AllIsGivenFromZero, Follow, Look, LooksGiveTheFile}
use Rattle.reg_tail.specs.Looks.{PassedLinesAreNotGivenAgain, PassedLinesStand}
use Rattle.reg_tail.specs.Looks.{last_look, texts_of}
use Rattle.reg_tail.specs.Tail.{HasGiven, front_from, lines_from}
use Rattle.reg_tail.specs.declared.tail.Tail.{Tail}
use Rattle.reg_tail.proofs.Given.{given_on}
use Rattle.reg_tail.proofs.Texts.{lines_from-append, lines_log, next_after-append}

-- a last look, behind a text that was given before
given_behind : (before : List ℕ) (look : Look) (more : List Look) → HasGiven look.tail look.file (before ++ look.text) → Follow look more
    → HasGiven (last_look look more).tail (last_look look more).file (before ++ texts_of look more)
    × ((last_look look more).tail.from ≡ look.tail.from)
given_behind before look [] has follow = (has, refl)
given_behind before look (next ∷ more) has follow =
    let on = given_on next.file (before ++ look.text) next.text look.tail next.tail look.file has follow.0 follow.1 in
    let rest = given_behind (before ++ look.text) next more on follow.2 in (
      subst (λ (t : List ℕ). HasGiven (last_look next more).tail (last_look next more).file t)
          (append_assoc before look.text (texts_of next more)) rest.0,
      rest.1 ∙ follow.1.passed.from,
    )

pub looks_give : LooksGiveTheFile
looks_give look more has follow = given_behind [] look more has follow

-- no line is below 0
all_lines : (lines : List (List ℕ)) (read : List Read) → Say lines read → lines_from 0 lines read ≡ lines
all_lines [] read say = refl
all_lines (line ∷ lines) [] say = absurd say
all_lines (line ∷ lines) (r ∷ read) say =
    let above : nat_le 0 (offset_in r) ≡ true = grind (arith, nat_tests) in
    ap (λ b. cond b (line ∷ lines_from 0 lines read) (lines_from 0 lines read)) above
    ∙ ap (λ (l : List (List ℕ)). line ∷ l) (all_lines lines read say.3)

before_end : (tail : Tail) (file text : List ℕ) (has : HasGiven tail file text) → take tail.place file ≡ text_of has.lines
before_end tail file text has =
    ap (λ k. take k file) has.place
    ∙ ap (take (length (text_of has.lines))) has.parts
    ∙ take_at (text_of has.lines) (10 ∷ has.rest) (length (text_of has.lines)) refl

pub all_given : AllIsGivenFromZero
all_given tail file text has zero =
    has.given
    ∙ ap (λ k. text_of (front_from k has.say.front ++ lines_from k has.say.others has.read)) zero
    ∙ ap (λ (l : List (List ℕ)). text_of (has.say.front ++ l)) (all_lines has.say.others has.read has.say.say)
    ∙ ap text_of (sym has.say.parts)
    ∙ sym (before_end tail file text has)

pub passed_stand : PassedLinesStand
passed_stand tail file text c has stand =
    ap (λ k. take k c) has.place
    ∙ stand has.lines has.rest (lines_log has.lines has.floor has.read has.say) has.parts
    ∙ ap (λ k. take k file) (sym has.place)

-- lines that are all below an offset
none_below : (from : ℕ) (lines : List (List ℕ)) (read : List Read)
    → Say lines read → next_after read ≤ from → lines_from from lines read ≡ []
none_below from [] read say low = refl
none_below from (line ∷ lines) [] say low = refl
none_below from (line ∷ lines) (r ∷ read) say low =
    let parts : next_after (r ∷ read) ≡ max (next_after (r ∷ [])) (next_after read) = next_after-append (r ∷ []) read in
    let one : next_after (r ∷ []) ≡ suc (offset_in r) = omega arith in
    let below : offset_in r < from = omega (arith, parts, one, low) in
    let rest : next_after read ≤ from = omega (arith, parts, low) in
    let no : nat_le from (offset_in r) ≡ false = grind (arith, nat_tests) in
    ap (λ b. cond b (line ∷ lines_from from lines read) (lines_from from lines read)) no ∙ none_below from lines read say.3 rest

pub not_again : PassedLinesAreNotGivenAgain
not_again tail file text has left added read next some lines reads say low =
    let other : nat_eq tail.from 0 ≡ false = ne_eqb tail.from 0 (λ none. omega (arith, some)) in
    has.given
    ∙ ap (λ b. text_of (cond b has.say.front [] ++ lines_from tail.from has.say.others has.read)) other
    ∙ ap (λ (l : List (List ℕ)). text_of (lines_from tail.from l has.read)) lines
    ∙ ap (λ (r : List Read). text_of (lines_from tail.from (left ++ added) r)) reads
    ∙ ap text_of (lines_from-append tail.from left added read next say)
    ∙ ap (λ (l : List (List ℕ)). text_of (l ++ lines_from tail.from added next)) (none_below tail.from left read say low)
