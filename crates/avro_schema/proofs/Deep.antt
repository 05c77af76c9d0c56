-- Deep schemas.
use Rattle.std.proofs.Common.{◌≡◌, ℕ, zero, suc, List, [], ◌∷◌, ◌++◌, length, Some, option_map, codes, refl}
use Rattle.serde_json.proofs.OnLiterals.{serde_json_on_literals}
use Rattle.avro_schema.specs.declared.error.SchemaError.TheVariants as fault
use Rattle.avro_schema.specs.Schema.{schema_of, faults}

abbrev arrays : ℕ → List ℕ → List ℕ
arrays zero s = s
arrays (suc n) s = codes "{\"type\":\"array\",\"items\":" ++ arrays n (s ++ 125 ∷ [])

pub deep : option_map (λ m. length m.nodes) (schema_of (arrays 127 (codes "\"int\""))) ≡ Some 128
unfolding serde_json_on_literals
deep = refl

pub too_deep : faults (arrays 128 (codes "\"int\"")) ≡ fault.NotJson ∷ []
unfolding serde_json_on_literals
too_deep = refl
