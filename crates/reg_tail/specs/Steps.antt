-- What each step of a tail gives and writes.
use Rattle.std.specs.Prelude.{◌≡◌, ◌⊎◌, ◌<◌, ⊤, ℕ, List, ◌++◌, length, Bool, true, false, Option, Result}
use Rattle.std.specs.declared.io.Error.{Error}
use Rattle.reg_tail.specs.Front.{HasNoFloorAbove}
use Rattle.reg_tail.specs.Source.{Stand}
use Rattle.reg_tail.specs.Tail.{GoesOn, HasGiven, IsBeginRefusal, IsMoreRefusal}
use Rattle.reg_tail.specs.Writing.{IsCutShort, IsWritten}
use Rattle.reg_tail.specs.declared.error.TailError.{TailError}
use Rattle.reg_tail.specs.declared.error.TailError.TheVariants.{WriteFault}
use Rattle.reg_tail.specs.declared.tail.Tail.{Tail}

-- if there is a text, then each crash leaves a file in which the lines of this one stand
abbrev pub IsSynced : (List ℕ → Type 0) → List ℕ → List ℕ → Type 0
IsSynced may_leave file text = 0 < length text → (c : List ℕ) → may_leave c → Stand file c

-- a tail begins with a file, which it gives from that offset on
pub record Begins (may_leave : List ℕ → Type 0) (file : List ℕ) (asked : ℕ) (tail : Tail) (text : List ℕ) : Type 0 where
  pub given : HasGiven tail file text
  pub from : tail.from ≡ asked
  pub fits : HasNoFloorAbove asked file
  pub synced : IsSynced may_leave file text

-- it goes on in a file of which it saw an earlier state: both texts together are the lines of this one
pub record Continues (may_leave : List ℕ → Type 0) (seen file : List ℕ) (old new : Tail) (text : List ℕ) : Type 0 where
  pub goes_on : GoesOn file old new text
  pub whole : (before : List ℕ) → HasGiven old seen before → HasGiven new file (before ++ text)
  pub synced : IsSynced may_leave file text

module _ {S W : Type 0} (known : S → Type 0) (seen : S → List ℕ) (may_leave : S → List ℕ → Type 0) (left : S → List ℕ)
    (contents : W → Option (List ℕ)) (writes : W → List ℕ → Result ℕ Error → W → Type 0) (flushes : W → Result ⊤ Error → W → Type 0) where
  -- all lines that a file was left with were given and written, each once
  pub record IsLeftBehind (source : S) (tail : Tail) (writer : W) : Type 0 where
    pub text : List ℕ
    pub synced : S
    pub behind : Tail
    pub written : W
    pub whole : IsWritten contents writes flushes text writer written
    pub given : known source → Continues (may_leave synced) (seen source) (left source) tail behind text

  -- what a look wrote: what was appended to the file; or, where another one has its name, all that the file was left with, and then
  -- the lines of the other one, from the offset behind those
  abbrev pub Looks : S → S → Tail → Tail → W → W → Bool → Type 0
  Looks source source' tail tail' writer writer' false = (text : List ℕ) × IsWritten contents writes flushes text writer writer'
      × (known source → Continues (may_leave source') (seen source) (seen source') tail tail' text × (left source' ≡ left source))
  Looks source source' tail tail' writer writer' true = (old : IsLeftBehind source tail writer) × (text : List ℕ)
      × IsWritten contents writes flushes text old.written writer'
      × (known source → Begins (may_leave source') (seen source') old.behind.next tail' text)

  -- why a look ended: nothing more of the file can be given, or the writer failed within that; or nothing of the one that has its name,
  -- or the writer failed within that
  abbrev pub IsLookRefusal : S → S → Tail → Tail → W → W → TailError → Type 0
  IsLookRefusal source source' tail tail' writer writer' e =
      ((writer' ≡ writer) × (tail' ≡ tail) × (known source → IsMoreRefusal (seen source') tail e))
      ⊎ ((e ≡ WriteFault) × ((text : List ℕ) × IsCutShort contents writes flushes text writer writer'
      × (known source → Continues (may_leave source') (seen source) (seen source') tail tail' text)))
      ⊎ ((old : IsLeftBehind source tail writer)
      × (((writer' ≡ old.written) × (tail' ≡ old.behind) × (known source → IsBeginRefusal old.behind.next (seen source') e))
      ⊎ ((e ≡ WriteFault) × ((tail : Tail) × (text : List ℕ) × IsCutShort contents writes flushes text old.written writer'
      × (known source → Begins (may_leave source') (seen source') old.behind.next tail text)))))
