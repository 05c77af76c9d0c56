-- A value and its normal text.
use Rattle.std.proofs.Common.{◌≡◌, ◌∙◌, ℕ, Bool, true, false, ◌&&◌, List, Option, Some, None, option_and_then}
use Rattle.std.proofs.Common.{option_map, is_some, codes, IfOk, IfSome, Result, refl, ap, sym, subst, if◌then◌else◌}
use Rattle.std.specs.declared.alloc.AllocError.{AllocError}
use Rattle.std.proofs.lemmas.Result.{IfOk-weaker}
use Rattle.serde_json.specs.Data.{Data}
use Rattle.avro_schema.specs.Reading.{normal_of}
use Rattle.avro_schema.specs.Schema.{Meaning, is_schema, schema_of}
use Rattle.reg_records.specs.Json.{has_number_at, has_text_at, number_at, text_at}
use Rattle.reg_values.specs.declared.decoding.Decoded.{Decoded}
use Rattle.reg_records.specs.declared.key.Key.TheVariants as keys
use Rattle.reg_records.specs.declared.value.Value.{Value}
use Rattle.reg_records.specs.declared.value.Value.TheVariants.{Schema}
use Rattle.reg_records.specs.declared.record.Record.{Record}
use Rattle.reg_values.specs.Value.{value_in, value_of, value_of_text, deleted_in, is_plain_avro, normal_in}
use Rattle.reg_values.specs.WithNormal.{with_normal}

normal-with_normal : (o : Option Value) → IfSome (option_map with_normal o) (λ d. d.normal ≡ normal_in d.value)
normal-with_normal None = tt
normal-with_normal (Some v) = refl

value-with_normal : (o : Option Value) → option_map (λ d. d.value) (option_map with_normal o) ≡ o
value-with_normal None = refl
value-with_normal (Some v) = refl

-- what is decoded has the value that was found
pub value_in-decoded : (decoded : Result (Option Decoded) AllocError) (found value : Option Value)
    → IfOk decoded (λ d. d ≡ option_map with_normal found) → found ≡ value
    → IfOk decoded (λ d. option_map (λ e. e.value) d ≡ value)
value_in-decoded decoded found value is same =
    IfOk-weaker decoded _ _ (λ d e. ap (option_map (λ x. x.value)) e ∙ value-with_normal found ∙ same) is

-- and the normal text of that value
pub normal_in-decoded : (decoded : Result (Option Decoded) AllocError) (found : Option Value)
    → IfOk decoded (λ d. d ≡ option_map with_normal found)
    → IfOk decoded (λ d. IfSome d (λ e. e.normal ≡ normal_in e.value))
normal_in-decoded decoded found is =
    IfOk-weaker decoded _ _ (λ d e.
    subst (λ (o : Option Decoded). IfSome o (λ x. x.normal ≡ normal_in x.value)) (sym e) (normal-with_normal found)) is

-- the value of a record that has a text
pub value_of-text : (r : Record) (text : List ℕ) → r.value ≡ Some text → value_of_text r.key text ≡ value_of r
value_of-text r text valued = sym (ap (option_and_then (value_of_text r.key)) valued)

module _ (subject : List ℕ) (version : ℕ) (d : Data) (id : ℕ) (text : List ℕ)
    (about : (has_text_at (codes "subject") subject d && has_number_at (codes "version") version d) ≡ true) (plain : is_plain_avro d ≡ true)
    (numbered : number_at (codes "id") d ≡ Some id) (written : text_at (codes "schema") d ≡ Some text) where
  -- the members of a version leave its text to be read and its mark to be looked at
  schema_value-members : value_in (keys.Schema subject version) d
      ≡ option_and_then (λ schema. option_map (λ deleted. Schema subject version id schema deleted) (deleted_in d))
      (if is_schema text then Some text else None)
  schema_value-members = rw (about, plain, numbered, written) refl

  pub schema_value-marked : (deleted : Bool) → deleted_in d ≡ Some deleted
      → option_map with_normal (value_in (keys.Schema subject version) d)
      ≡ option_map (λ normal. record { value = Schema subject version id text deleted; normal = Some normal }) (normal_of text)
  schema_value-marked deleted marked =
      ap (option_map with_normal) (
      schema_value-members
      ∙ ap (λ mark.
      option_and_then (λ schema. option_map (λ deleted. Schema subject version id schema deleted) mark)
      (if is_schema text then Some text else None)) marked)
      ∙ elim (schema_of text) as (λ m. schema_of text ≡ m
      → option_map with_normal (
      option_and_then (λ schema. Some (Schema subject version id schema deleted)) (if is_some m then Some text else None))
      ≡ option_map (λ normal. record { value = Schema subject version id text deleted; normal = Some normal })
      (option_map (λ schema. schema.normal_text) m)) [
        | None ↦ λ _. refl
        | Some meaning ↦ λ is.
            let decoded : Option Meaning → Option Decoded =
            λ found. Some (record { value = Schema subject version id text deleted; normal = option_map (λ schema. schema.normal_text) found }) in
            ap decoded is
      ] refl

  pub schema_value-unmarked : deleted_in d ≡ None → None ≡ option_map with_normal (value_in (keys.Schema subject version) d)
  schema_value-unmarked marked =
      sym (
      ap (option_map with_normal) (
      schema_value-members
      ∙ ap (λ mark.
      option_and_then (λ schema. option_map (λ deleted. Schema subject version id schema deleted) mark)
      (if is_schema text then Some text else None)) marked)
      ∙ elim (is_schema text) as (λ b. option_map with_normal (option_and_then (λ schema. None) (if b then Some text else None)) ≡ None) [
        | true ↦ refl
        | false ↦ refl
      ])
