-- What is kept of a schema that was read.
use Rattle.std.proofs.Common.{◌≡◌, ℕ, List, Option, Some, None, option_map, refl, ap, subst}
use Rattle.avro_schema.specs.Reading.{Reading, kept_of, normal_of, reading_of}
use Rattle.avro_schema.specs.Schema.{Meaning, schema_of}

-- its normal text is its own normal text
pub normal_reads_back : ((text : List ℕ) (m : Meaning) → schema_of text ≡ Some m → schema_of m.normal_text ≡ Some m)
    → (text : List ℕ) (found : Reading) → reading_of text ≡ Some found → normal_of found.normal ≡ Some found.normal
normal_reads_back back text found gives = each (schema_of text) refl gives
  where
    each : (o : Option Meaning) → schema_of text ≡ o → option_map kept_of o ≡ Some found → normal_of found.normal ≡ Some found.normal
    each None is h = absurd (cc)
    each (Some m) is h =
        let kept : kept_of m ≡ found = cc in
        subst (λ n. normal_of n ≡ Some n) (ap (λ (r : Reading). r.normal) kept)
        (ap (option_map (λ (s : Meaning). s.normal_text)) (back text m is))
