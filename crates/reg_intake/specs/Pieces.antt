-- What one read of a reader gives.
use Rattle.std.specs.Prelude.{◌≡◌, ◌<◌, ⊤, ℕ, List, length, Option}
use Rattle.std.specs.Io.KnownBytes.{Consumes, IsAtEnd, Keeps}
use Rattle.std.specs.declared.io.ErrorKind.{ErrorKind}
use Rattle.reg_intake.specs.Intake.{Unread, with_bytes}
use Rattle.reg_intake.specs.declared.pieces.GiveError.{GiveError}
use Rattle.reg_intake.specs.declared.pieces.GiveError.TheVariants.{Read, OutOfMemory}

-- so many bytes were taken off the reader, behind those before; none exactly at its end, and then all is as it was
pub record Gives (old new : Option (List ℕ)) (before after : Unread) (len : ℕ) : Type 0 where
  pub some : 0 < len → (bytes : List ℕ) × (length bytes ≡ len) × Consumes old new bytes × (after ≡ with_bytes before bytes)
  pub none : len ≡ 0 → IsAtEnd old × Keeps old new × (after ≡ before)

-- the reader answered an error of that kind; or memory was refused
abbrev pub IsGiveFault : {B : Type 0} → (B → ErrorKind → B → Type 0) → B → B → GiveError → Type 0
IsGiveFault fails old new (Read kind) = fails old kind new
IsGiveFault fails old new OutOfMemory = ⊤
