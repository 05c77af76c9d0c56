-- A value that its text brings along is what the text says.
use Rattle.std.proofs.Common.{◌≡◌, ◌∙◌, ℕ, Bool, true, List, Option, Some, None, option_and_then, option_map, is_some, IfSome, ap, sym, subst, refl}
use Rattle.avro_schema.specs.Reading.{normal_of}
use Rattle.avro_schema.specs.Schema.{is_schema, schema_of}
use Rattle.reg_records.specs.declared.key.Key.{Key}
use Rattle.reg_records.specs.declared.value.Value.{Value}
use Rattle.reg_records.specs.declared.value.Value.TheVariants as values
use Rattle.reg_records.specs.WrittenValue.{written_value}
use Rattle.reg_values.specs.declared.decoding.Decoded.{Decoded}
use Rattle.reg_values.specs.Brought.{HasSchema, MayStandUnder}
use Rattle.reg_values.specs.OfKey.{IsValueOf}
use Rattle.reg_values.specs.Value.{value_of, value_of_text}
use Rattle.reg_values.specs.WithNormal.{with_normal}

-- a text that has a normal text is a schema's
is_schema-normal_of : (text normal : List ℕ) → normal_of text ≡ Some normal → is_schema text ≡ true
is_schema-normal_of text normal =
    elim (schema_of text) as (λ found. option_map (λ schema. schema.normal_text) found ≡ Some normal → is_some found ≡ true) [
      | None ↦ λ none. absurd (cc none)
      | Some schema ↦ λ _. refl
    ]

-- what is decoded of a version whose text is a schema
pub with_normal-version : (subject : List ℕ) (version id : ℕ) (text schema : List ℕ) (deleted : Bool) (found : Option Decoded)
    → text ≡ schema
    → found ≡ option_map (λ normal. record { value = values.Schema subject version id text deleted; normal = Some normal }) (normal_of text)
    → IfSome found (λ decoded. (decoded ≡ with_normal (values.Schema subject version id schema deleted)) × (is_schema schema ≡ true))
with_normal-version subject version id text schema deleted found same is =
    let version_of : List ℕ → Value = λ s. values.Schema subject version id s deleted in
    let decoded : Option (List ℕ) → Decoded = λ n. record { value = version_of text; normal = n } in
    subst (λ s. IfSome found (λ d. (d ≡ with_normal (version_of s)) × (is_schema s ≡ true))) same (
    elim (normal_of text) as (λ m. normal_of text ≡ m → found ≡ option_map (λ normal. decoded (Some normal)) m
    → IfSome found (λ d. (d ≡ with_normal (version_of text)) × (is_schema text ≡ true))) [
      | None ↦ λ _ e. subst (λ (o : Option Decoded). IfSome o (λ d. (d ≡ with_normal (version_of text)) × (is_schema text ≡ true))) (sym e) tt
      | Some normal ↦ λ has e.
          subst (λ (o : Option Decoded). IfSome o (λ d. (d ≡ with_normal (version_of text)) × (is_schema text ≡ true))) (sym e)
          (ap decoded (sym has), is_schema-normal_of text normal has)
    ] refl is)

may_stand : (key : Key) (value : Value) → MayStandUnder key value → HasSchema value → IsValueOf key value
may_stand key (values.Schema subject version id schema deleted) may has = (may.0, may.1, may.2, has)
may_stand key (values.Config level) may has = may
may_stand key (values.Mode mode) may has = may
may_stand key (values.DeleteSubject subject version) may has = may
may_stand key values.Noop may has = may
may_stand key (values.IdMark id) may has = may

-- what was written for a value that may stand under the key says that value
value_of_text-brought : (key : Key) (value : Value) (text : List ℕ)
    → ((offset : ℕ) (k : Key) (v : Value) → IsValueOf k v
    → value_of (record { offset = offset; key = k; value = written_value v }) ≡ Some v)
    → written_value value ≡ Some text → MayStandUnder key value → HasSchema value
    → Some (with_normal value) ≡ option_map with_normal (value_of_text key text)
value_of_text-brought key value text reads_back written may has =
    ap (option_map with_normal) (
    sym (reads_back 0 key value (may_stand key value may has)) ∙ ap (option_and_then (value_of_text key)) written)

pub says-brought : (key : Key) (value : Value) (text : List ℕ) (found : Option Decoded)
    → ((offset : ℕ) (k : Key) (v : Value) → IsValueOf k v
    → value_of (record { offset = offset; key = k; value = written_value v }) ≡ Some v)
    → written_value value ≡ Some text → MayStandUnder key value
    → IfSome found (λ decoded. (decoded ≡ with_normal value) × HasSchema value)
    → IfSome found (λ decoded. Some decoded ≡ option_map with_normal (value_of_text key text))
says-brought key value text None reads_back written may is = tt
says-brought key value text (Some decoded) reads_back written may is =
    ap Some is.0 ∙ value_of_text-brought key value text reads_back written may is.1
