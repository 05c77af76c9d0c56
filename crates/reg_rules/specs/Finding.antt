-- What the tests come to that find something.
use Rattle.std.specs.Prelude.{◌≡◌, ◌⊎◌, ℕ, List, Some, None, Result, Ok, Err}
use Rattle.reg_modes.specs.avro_schema.Schema.{Meaning, schema_of}
use Rattle.reg_modes.specs.avro_schema.Reading.{Reading, kept_of}
use Rattle.reg_modes.specs.Permitted.{Permit, granted}
use Rattle.reg_modes.specs.reg_refusals.Refusal.{no_memory}
use Rattle.reg_modes.specs.reg_refusals.declared.refusal.Refusal.{Refusal}
use Rattle.reg_modes.specs.reg_refusals.declared.refusal.Refusal.TheVariants.{InvalidSchema}

-- a test, with what it finds where it passes
abbrev pub Finds : {A : Type 0} → Permit → (A → Type 0) → Result A Refusal → Type 0
Finds test Found (Ok found) = (test ≡ granted) × Found found
Finds test Found (Err refusal) = test ≡ Err refusal

-- what is asked of the schema that the text means, if it means one; memory may be refused
abbrev pub IsRead : List ℕ → Result Reading Refusal → Type 0
IsRead text (Ok reading) = (schema : Meaning) × (schema_of text ≡ Some schema) × (kept_of schema ≡ reading)
IsRead text (Err refusal) = (refusal ≡ no_memory) ⊎ ((schema_of text ≡ None) × (refusal ≡ InvalidSchema))
