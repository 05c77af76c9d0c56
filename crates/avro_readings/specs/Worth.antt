-- When a value isn't read, and what a yes is worth.
use Rattle.std.specs.Prelude.{◌≡◌, List, true, false, Some, None, IsSome}
use Rattle.avro_resolve.specs.avro_schema.declared.node.Node.{Node}
use Rattle.avro_resolve.specs.avro_schema.Sound.{IsSound}
use Rattle.avro_resolve.specs.Trails.{roots, AreCompatible}
use Rattle.avro_data.specs.Value.{Value}
use Rattle.avro_data.specs.Fits.{fits}
use Rattle.avro_data.specs.Size.{is_too_large}
use Rattle.avro_readings.specs.declared.error.ReadError.{ReadError}
use Rattle.avro_readings.specs.declared.error.ReadError.TheVariants.{Unfit, Unreadable, TooLarge, OutOfMemory}
use Rattle.avro_readings.specs.Reads.{reads}

-- what is read of a value: it is one of the writer's schema, and its reading is within the limits
pub record IsRead (r w : List Node) (v read : Value) : Type 0 where
  pub fit : fits w roots.writer v ≡ true
  pub is : reads r w roots v ≡ Some read
  pub small : is_too_large read ≡ false

-- where each refusal comes
abbrev pub IsReadRefusal : List Node → List Node → Value → ReadError → Type 0
IsReadRefusal r w v Unfit = fits w roots.writer v ≡ false
IsReadRefusal r w v Unreadable = (fits w roots.writer v ≡ true) × (reads r w roots v ≡ None)
IsReadRefusal r w v TooLarge = (fits w roots.writer v ≡ true) × (read : Value) × (reads r w roots v ≡ Some read)
    × (is_too_large read ≡ true)
IsReadRefusal r w v OutOfMemory = Unit {0}

-- Where two schemas are compatible, every value of the writer's has a reading.
abbrev pub CompatibleIsReadable : List Node → List Node → Type 0
CompatibleIsReadable r w = IsSound r → AreCompatible r w → (v : Value) → fits w roots.writer v ≡ true → IsSome (reads r w roots v)
