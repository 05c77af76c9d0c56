-- How much of a text was written, and whether it was flushed.
use Rattle.std.specs.Prelude.{◌≡◌, ◌⊎◌, ◌<◌, ⊤, ℕ, List, [], ◌++◌, length, Option, Result, Ok, Err}
use Rattle.std.specs.Io.KnownBytes.{Appends, Keeps}
use Rattle.std.specs.declared.io.Error.{Error}

module _ {W : Type 0} (contents : W → Option (List ℕ))
    (writes : W → List ℕ → Result ℕ Error → W → Type 0) (flushes : W → Result ⊤ Error → W → Type 0) where
  -- the writer's last call was a flush, which was Ok
  abbrev pub IsFlushed : W → Type 0
  IsFlushed new = (before : W) × flushes before (Ok tt) new × Keeps (contents before) (contents new)

  -- all of the text was written, and then flushed; for no text the writer isn't touched
  abbrev pub IsWritten : List ℕ → W → W → Type 0
  IsWritten text old new = (0 < length text → Appends (contents old) (contents new) text × IsFlushed new) × (text ≡ [] → new ≡ old)

  -- the writer's last call answered an error, or it took none of some bytes
  abbrev pub HasFailed : W → Type 0
  HasFailed new = (before : W)
      × (((e : Error) × (flushes before (Err e) new ⊎ ((bytes : List ℕ) × writes before bytes (Err e) new)))
      ⊎ ((bytes : List ℕ) × (0 < length bytes) × writes before bytes (Ok 0) new))

  -- a front of the text was written, and then the writer failed
  pub record IsCutShort (text : List ℕ) (old new : W) : Type 0 where
    pub front : List ℕ
    pub rest : List ℕ
    pub parts : text ≡ front ++ rest
    pub written : Appends (contents old) (contents new) front
    pub failed : HasFailed new
