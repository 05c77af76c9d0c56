-- A file at which is looked again and again.
use Rattle.std.specs.Prelude.{◌≡◌, ⊤, ◌<◌, ◌≤◌, ℕ, List, [], ◌∷◌, ◌++◌, take}
use Rattle.reg_journal.specs.Lines.{Say, text_of}
use Rattle.reg_records.specs.Log.{next_after}
use Rattle.reg_records.specs.declared.record.Read.{Read}
use Rattle.reg_tail.specs.Source.{Stand}
use Rattle.reg_tail.specs.Tail.{GoesOn, HasGiven, lines_from}
use Rattle.reg_tail.specs.declared.tail.Tail.{Tail}

-- the file as it was, the tail after it, and the text that was given
pub record Look : Type 0 where
  pub file : List ℕ
  pub tail : Tail
  pub text : List ℕ

-- each of them goes on where the one before it stood, in a file in which the lines stand that it had then
abbrev pub Follow : Look → List Look → Type 0
Follow look [] = ⊤
Follow look (next ∷ more) = Stand look.file next.file × GoesOn next.file look.tail next.tail next.text × Follow next more

abbrev pub last_look : Look → List Look → Look
last_look look [] = look
last_look look (next ∷ more) = last_look next more

-- what they gave, one text behind the other
abbrev pub texts_of : Look → List Look → List ℕ
texts_of look [] = look.text
texts_of look (next ∷ more) = look.text ++ texts_of next more

-- together they gave the lines of the whole file from the first's offset on: none was left out, and none came twice
abbrev pub LooksGiveTheFile : Type 0
LooksGiveTheFile = (look : Look) (more : List Look) → HasGiven look.tail look.file look.text → Follow look more
    → HasGiven (last_look look more).tail (last_look look more).file (texts_of look more)
    × ((last_look look more).tail.from ≡ look.tail.from)

-- from offset 0 on, that is all that stands before its empty line
abbrev pub AllIsGivenFromZero : Type 0
AllIsGivenFromZero = (tail : Tail) (file text : List ℕ) → HasGiven tail file text → tail.from ≡ 0 → text ≡ take tail.place file

-- a file in which its lines stand has all that was passed
abbrev pub PassedLinesStand : Type 0
PassedLinesStand = (tail : Tail) (file text c : List ℕ) → HasGiven tail file text → Stand file c → take tail.place c ≡ take tail.place file

-- in a file that took another's place, lines below the offset from which it is given aren't given again: where they stand at the front, as
-- those that a compaction left, what is given is those behind them from that offset on
abbrev pub PassedLinesAreNotGivenAgain : Type 0
PassedLinesAreNotGivenAgain = (tail : Tail) (file text : List ℕ) (has : HasGiven tail file text)
    (left added : List (List ℕ)) (read next : List Read) → 0 < tail.from
    → has.say.others ≡ left ++ added → has.read ≡ read ++ next → Say left read → next_after read ≤ tail.from
    → text ≡ text_of (lines_from tail.from added next)
