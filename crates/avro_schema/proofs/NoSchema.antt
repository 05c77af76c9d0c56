-- A text in which a fault stands is no schema's.
use Rattle.std.proofs.Common.{◌≡◌, ◌≢◌, ℕ, List, [], ◌∷◌, Option, None, Contains, true, false, refl, sym, ap, ◌∙◌, arith}
use Rattle.avro_schema.specs.declared.error.SchemaError.{SchemaError}
use Rattle.avro_schema.specs.declared.error.SchemaError.TheVariants.{OutOfMemory}
use Rattle.avro_schema.specs.Schema.{faults, schema_of, is_memory, IsRefusalBy, Meaning}

none_meant : (es : List SchemaError) (e : SchemaError) (o : Option Meaning)
    → Contains es e → ◌≡◌ {A = Option Meaning} (elim es [ [] ↦ o | x ∷ xs ↦ None ]) None
none_meant [] e o h = absurd (omega arith)
none_meant (x ∷ es) e o h = refl

pub schema_of-refused : (text : List ℕ) (e : SchemaError) → IsRefusalBy (faults text) e → is_memory e ≡ false → schema_of text ≡ None
schema_of-refused text e refusal fault =
    let other : e ≢ OutOfMemory = λ is. let both : true ≡ false = sym (ap is_memory is) ∙ fault in cc in
    none_meant (faults text) e _ (refusal other)
