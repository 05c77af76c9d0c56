-- What is taken from a reader where a body stands.
use Rattle.std.specs.Prelude.{◌≡◌, ◌<◌, ℕ, List, Bool, true, false, length, Option}
use Rattle.std.specs.Io.KnownBytes.{Consumes, IsAtEnd}
use Rattle.reg_messages.specs.declared.body_reading.Body.{Body}
use Rattle.reg_messages.specs.declared.body_reading.Body.TheVariants as bodies

-- so many bytes, or fewer and the end
abbrev pub TakesAll : Option (List ℕ) → Option (List ℕ) → ℕ → Bool → Type 0
TakesAll old new len true = (bytes : List ℕ) × (length bytes ≡ len) × Consumes old new bytes
TakesAll old new len false = (bytes : List ℕ) × (length bytes < len) × Consumes old new bytes × IsAtEnd new

-- before the reader was lost it gave fewer bytes than were stated
abbrev pub LosesBody : Option (List ℕ) → Option (List ℕ) → ℕ → Type 0
LosesBody old new len = (bytes : List ℕ) × (length bytes < len) × Consumes old new bytes

-- the bytes that were stated, the end before them, or either of the two where memory was refused
abbrev pub TakesBody : Option (List ℕ) → Option (List ℕ) → ℕ → Body → Type 0
TakesBody old new len (bodies.Whole bytes) = (length bytes ≡ len) × Consumes old new bytes
TakesBody old new len bodies.Short = TakesAll old new len false
TakesBody old new len bodies.Dropped = (whole : Bool) × TakesAll old new len whole
