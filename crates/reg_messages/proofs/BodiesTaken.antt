-- Bytes that are taken after others.
use Rattle.std.proofs.Common.{◌≡◌, ◌+◌, ◌++◌, ℕ, List, Bool, true, false, length, arith, length-append}
use Rattle.std.specs.Prelude.{Option}
use Rattle.std.specs.Io.KnownBytes.{Consumes}
use Rattle.std.proofs.KnownBytes.{Consumes-trans}
use Rattle.reg_messages.specs.BodyReading.{LosesBody, TakesAll}

-- some bytes, and then those that are left to be taken
pub TakesAll-after : (old mid new : Option (List ℕ)) (taken : List ℕ) (left len : ℕ) (whole : Bool) → len ≡ length taken + left
    → Consumes old mid taken → TakesAll mid new left whole → TakesAll old new len whole
TakesAll-after old mid new taken left len true sum took (bytes, many, more) =
    (taken ++ bytes, omega (arith, length-append taken bytes, many, sum), Consumes-trans old mid new taken bytes took more)
TakesAll-after old mid new taken left len false sum took (bytes, few, more, ended) =
    (taken ++ bytes, omega (arith, length-append taken bytes, few, sum), Consumes-trans old mid new taken bytes took more, ended)

-- the same where the reader is lost among those that are left
pub LosesBody-after : (old mid new : Option (List ℕ)) (taken : List ℕ) (left len : ℕ) → len ≡ length taken + left
    → Consumes old mid taken → LosesBody mid new left → LosesBody old new len
LosesBody-after old mid new taken left len sum took (bytes, few, more) =
    (taken ++ bytes, omega (arith, length-append taken bytes, few, sum), Consumes-trans old mid new taken bytes took more)
