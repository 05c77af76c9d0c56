-- A schema's normal text means the same schema.
use Rattle.std.proofs.Common.{◌≡◌, ℕ, ◌≤◌, List, [], ◌∷◌, ◌++◌, length, true, false, not, nat_le}
use Rattle.std.proofs.Common.{Option, Some, None, option_map, refl, sym, ap, ◌∙◌, subst, arith}
use Rattle.std.proofs.lemmas.Bool.{leb-true}
use Rattle.std.specs.Option.{option_map_or}
use Rattle.serde_json.specs.Data.{Data}
use Rattle.serde_json.specs.Read.{read}
use Rattle.serde_json.specs.Written.{has_float, compact_text}
use Rattle.avro_schema.specs.declared.error.SchemaError.{SchemaError}
use Rattle.avro_schema.specs.declared.error.SchemaError.TheVariants as fault
use Rattle.avro_schema.specs.declared.limits.TheConstants.{TEXT_LIMIT, SCHEMA_NODES_LIMIT}
use Rattle.avro_schema.specs.Form.{form}
use Rattle.avro_schema.specs.Places.{count}
use Rattle.avro_schema.specs.Nodes.{nodes}
use Rattle.avro_schema.specs.Faults.{unless, form_faults}
use Rattle.avro_schema.specs.Schema.{Meaning, data_faults, schema_of}
use Rattle.avro_schema.proofs.DistinctNames.{is_false}
use Rattle.avro_schema.proofs.NormalLemmas.{same_meaning}
use Rattle.avro_schema.proofs.ReadsBack.{compact_text_reads_back}
use Rattle.avro_schema.proofs.Reading.{nil-left, nil-right, nil-unless}
use Rattle.avro_schema.proofs.Sound.{none_stood}

abbrev meant : Data → Meaning
meant d = record { nodes = nodes (form d); normal_text = compact_text d }

-- where a text means a schema, it is that of some JSON with no float
read_as : (es : List SchemaError) (o : Option Data) (m : Meaning)
    → elim (es ++ option_map_or data_faults o (fault.NotJson ∷ [])) [ [] ↦ option_map meant o | x ∷ xs ↦ None ] ≡ Some m
    → (d : Data) × (o ≡ Some d) × (es ≡ []) × (has_float d ≡ false) × (compact_text d ≡ m.normal_text)
read_as es None m e = let stood = none_stood (es ++ fault.NotJson ∷ []) None m e in cc
read_as es (Some d) m e =
    let stood : (es ++ data_faults d ≡ []) × (Some (meant d) ≡ Some m) = none_stood (es ++ data_faults d) (Some (meant d)) m e in
    let same : meant d ≡ m = let is = stood.1 in cc in
    let no_float : List SchemaError = unless (not (has_float d)) fault.FloatNumber in
    let few : List SchemaError = unless (nat_le (count (form d)) SCHEMA_NODES_LIMIT) fault.TooManyNodes in
    let first : no_float ++ few ≡ [] = nil-left (no_float ++ few) (form_faults (form d)) (nil-right es (data_faults d) stood.0) in
    let whole : not (has_float d) ≡ true = nil-unless (not (has_float d)) fault.FloatNumber (nil-left no_float few first) in
    (d, refl, nil-left _ _ stood.0, is_false (has_float d) whole, ap (λ (k : Meaning). k.normal_text) same)

pub normal_means_same : ((text : List ℕ) (d : Data) → read text ≡ Some d → length (compact_text d) ≤ length text)
    → (text : List ℕ) (m : Meaning) → schema_of text ≡ Some m → schema_of m.normal_text ≡ Some m
normal_means_same no_longer text m e =
    let r = read_as (unless (nat_le (length text) TEXT_LIMIT) fault.TooLong) (read text) m e in
    let within : length text ≤ TEXT_LIMIT =
    leb-true (length text) TEXT_LIMIT (nil-unless (nat_le (length text) TEXT_LIMIT) fault.TooLong r.2) in
    let back : read m.normal_text ≡ Some r.0 = ap read (sym r.4) ∙ compact_text_reads_back text r.0 r.1 r.3 in
    let short : length m.normal_text ≤ length text = subst (λ s. length s ≤ length text) r.4 (no_longer text r.0 r.1) in
    same_meaning m.normal_text text r.0 back r.1 (omega arith) within ∙ e
