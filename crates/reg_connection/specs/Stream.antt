-- How a stream ends.
use Rattle.std.specs.Prelude.{◌≢◌, ◌<◌, ℕ, Result, Ok, Err, ◌≡◌}
use Rattle.std.specs.IoError.{error_kind}
use Rattle.std.specs.declared.io.Error.{Error}
use Rattle.std.specs.declared.io.ErrorKind.TheVariants.{Interrupted, WouldBlock}

-- an error other than an interruption, and than that nothing can be read or written now
abbrev pub BreaksOff : Error → Type 0
BreaksOff e = (error_kind e ≢ Interrupted) × (error_kind e ≢ WouldBlock)

-- a write of so many bytes failed, or took none of them
abbrev pub IsNoWrite : ℕ → Result ℕ Error → Type 0
IsNoWrite len (Ok n) = (n ≡ 0) × (0 < len)
IsNoWrite len (Err e) = BreaksOff e
