-- The text that is written for a value reads back, under its key.
use Rattle.std.proofs.Common.{◌≡◌, ◌≤◌, ◌==◌, ℕ, List, Bool, true, Option, Some, option_and_then, unwrap_or, ap, ◌∙◌, refl, eq-eqb, arith}
use Rattle.std.proofs.lemmas.Bool.{le-leb}
use Rattle.std.proofs.lemmas.Slice.Eq.{bytes_eq-Decides}
use Rattle.std.specs.Prelude.{bytes_eq}
use Rattle.json.proofs.Printed.Decimals.{IsNumber-decimal}
use Rattle.json.specs.Tree.{depth, HasNumbers}
use Rattle.serde_json.specs.Data.{Data, null}
use Rattle.serde_json.specs.Read.{read, of_json, max_depth}
use Rattle.serde_json.specs.Written.{compact_text, outline}
use Rattle.serde_json.proofs.Numbers.{number_of-decimal}
use Rattle.avro_schema.specs.Schema.{is_schema}
use Rattle.reg_level_names.specs.Level.{is_level}
use Rattle.reg_records.specs.declared.key.Key.{Key}
use Rattle.reg_records.specs.declared.key.Key.TheVariants.{Schema, Config, Mode, DeleteSubject, IdMark}
use Rattle.reg_records.specs.declared.value.Value.{Value}
use Rattle.reg_records.specs.declared.value.Value.TheVariants as values
use Rattle.reg_values.specs.Value.{value_in, value_of}
use Rattle.reg_records.specs.Written.{IsVersionOrId}
use Rattle.reg_records.specs.WrittenValue.{value_data, written_value}
use Rattle.reg_values.specs.OfKey.{IsValueOf}

-- the object that is written for a value
abbrev data_of : Value → Data
data_of v = unwrap_or (value_data v) null

same_bytes : (xs : List ℕ) → bytes_eq xs xs ≡ true
same_bytes xs = (bytes_eq-Decides xs xs).1 refl

same_number : (n : ℕ) → (n == n) ≡ true
same_number n = eq-eqb n n refl

-- where compact texts read back
module _ (read-compact_text : (d : Data) → HasNumbers (outline d)
    → depth (outline d) ≤ max_depth → read (compact_text d) ≡ of_json (outline d)) where
  schema_again : (subject : List ℕ) (version id : ℕ) (schema : List ℕ) (deleted : Bool)
      → IsVersionOrId version → IsVersionOrId id → is_schema schema ≡ true
      → option_and_then (value_in (Schema subject version))
      (read (compact_text (data_of (values.Schema subject version id schema deleted))))
      ≡ Some (values.Schema subject version id schema deleted)
  schema_again subject version id schema deleted v i read =
      let n = IsNumber-decimal version (omega arith) in
      let m = IsNumber-decimal id (omega arith) in
      ap (option_and_then (value_in (Schema subject version)))
      (read-compact_text (data_of (values.Schema subject version id schema deleted)) (tt, (n, (m, (tt, (tt, tt))))) (omega arith))
      ∙ rw (
        number_of-decimal version (omega arith),
        number_of-decimal id (omega arith),
        same_bytes subject,
        le-leb 1 version v.0,
        le-leb version _ v.1,
        same_number version,
        le-leb 1 id i.0,
        le-leb id _ i.1,
        read,
      )

  config_again : (scope : Option (List ℕ)) (level : List ℕ) → is_level level ≡ true
      → option_and_then (value_in (Config scope)) (read (compact_text (data_of (values.Config level)))) ≡ Some (values.Config level)
  config_again scope level named =
      ap (option_and_then (value_in (Config scope))) (read-compact_text (data_of (values.Config level)) (tt, tt) (omega arith))
      ∙ rw named refl

  delete_subject_again : (subject : List ℕ) (version : ℕ) → IsVersionOrId version
      → option_and_then (value_in (DeleteSubject subject)) (read (compact_text (data_of (values.DeleteSubject subject version))))
      ≡ Some (values.DeleteSubject subject version)
  delete_subject_again subject version v =
      let n = IsNumber-decimal version (omega arith) in
      ap (option_and_then (value_in (DeleteSubject subject)))
      (read-compact_text (data_of (values.DeleteSubject subject version)) (tt, (n, tt)) (omega arith))
      ∙ rw (number_of-decimal version (omega arith), same_bytes subject, le-leb 1 version v.0, le-leb version _ v.1)

  id_mark_again : (id : ℕ) → IsVersionOrId id
      → option_and_then (value_in IdMark) (read (compact_text (data_of (values.IdMark id)))) ≡ Some (values.IdMark id)
  id_mark_again id i =
      ap (option_and_then (value_in IdMark))
      (read-compact_text (data_of (values.IdMark id)) (IsNumber-decimal id (omega arith), tt) (omega arith))
      ∙ rw (number_of-decimal id (omega arith), le-leb 1 id i.0, le-leb id _ i.1)

  pub value_of-written_value : (offset : ℕ) (k : Key) (v : Value) → IsValueOf k v
      → value_of (record { offset = offset; key = k; value = written_value v }) ≡ Some v
  unfolding written_value
  value_of-written_value offset k (values.Schema subject version id schema deleted) h =
      rw h.0 (schema_again subject version id schema deleted h.1 h.2 h.3)
  value_of-written_value offset k (values.Config level) h = rw h.1 (config_again h.0 level h.2)
  value_of-written_value offset k (values.Mode mode) h =
      rw h.1 (ap (option_and_then (value_in (Mode h.0))) (read-compact_text (data_of (values.Mode mode)) (tt, tt) (omega arith)))
  value_of-written_value offset k (values.DeleteSubject subject version) h = rw h.0 (delete_subject_again subject version h.1)
  value_of-written_value offset k values.Noop h = absurd h
  value_of-written_value offset k (values.IdMark id) h = rw h.0 (id_mark_again id h.1)
