-- What reading a text gives.
use Rattle.std.proofs.Common.{◌≡◌, ℕ, List, Option, Some, None, Ok, option_map, refl}
use Rattle.reg_modes.specs.avro_schema.Reading.{Reading, kept_of, reading_of}
use Rattle.reg_modes.specs.avro_schema.Schema.{Meaning, schema_of}
use Rattle.reg_rules.specs.Finding.{IsRead}

module _ (text : List ℕ) where
  pub reading_some : (reading : Reading) → reading_of text ≡ Some reading → IsRead text (Ok reading)
  reading_some reading gives = each (schema_of text) refl gives
    where
      each : (found : Option Meaning) → schema_of text ≡ found → option_map kept_of found ≡ Some reading → IsRead text (Ok reading)
      each None is h = absurd (cc)
      each (Some schema) is h = (schema, is, cc)

  pub reading_none : reading_of text ≡ None → schema_of text ≡ None
  reading_none gives = each (schema_of text) refl gives
    where
      each : (found : Option Meaning) → schema_of text ≡ found → option_map kept_of found ≡ None → schema_of text ≡ None
      each None is h = is
      each (Some schema) is h = absurd (cc)
