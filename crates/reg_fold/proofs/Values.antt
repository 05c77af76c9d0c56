-- What the value of a record is under its key.
use Rattle.std.proofs.Common.{◌≡◌, ℕ, Bool, true, false, cond, ◌&&◌, codes, List, option_map, subst}
use Rattle.std.proofs.Common.{Option, Some, None, option_and_then, unwrap_or, refl, sym, ap, ◌∙◌}
use Rattle.std.specs.Prelude.{IfSome}
use Rattle.serde_json.specs.Data.{Data}
use Rattle.serde_json.specs.Read.{read}
use Rattle.reg_values.specs.avro_schema.Schema.{is_schema}
use Rattle.reg_values.specs.reg_level_names.Level.{is_level}
use Rattle.reg_values.specs.reg_records.Json.{text_at, text_where, number_at, has_text_at, has_number_at}
use Rattle.reg_values.specs.Value.{value_of, value_of_text, value_in, is_plain_avro, deleted_in}
use Rattle.reg_values.specs.reg_records.declared.key.Key.{Key}
use Rattle.reg_values.specs.reg_records.declared.key.Key.TheVariants as keys
use Rattle.reg_values.specs.reg_records.declared.record.Record.{Record}
use Rattle.reg_values.specs.reg_records.declared.value.Value.{Value}
use Rattle.reg_values.specs.reg_records.declared.value.Value.TheVariants as values
use Rattle.reg_set.specs.Records.{Records}
use Rattle.reg_entries.specs.declared.entry.Entry.{Entry}
use Rattle.reg_fold.specs.Entries.{entry_in, entry_of, normal_of}
use Rattle.reg_fold.specs.Opaque.{is_version}

-- a version's value names its key and has a schema's text, and a version's key has no other value
abbrev pub IsUnder : Key → Value → Type 0
IsUnder key (values.Schema subject version id schema deleted) = (key ≡ keys.Schema subject version) × (is_schema schema ≡ true)
IsUnder key (values.Config level) = is_version key ≡ false
IsUnder key (values.Mode mode) = is_version key ≡ false
IsUnder key (values.DeleteSubject subject version) = is_version key ≡ false
IsUnder key values.Noop = is_version key ≡ false
IsUnder key (values.IdMark id) = is_version key ≡ false

module _ (P : Value → Type 0) where
  each_some : {X : Type 0} (o : Option X) (f : X → Option Value) → ((x : X) → o ≡ Some x → IfSome (f x) P) → IfSome (option_and_then f o) P
  each_some None f h = tt
  each_some (Some x) f h = h x refl

  mapped : {X : Type 0} (o : Option X) (f : X → Value) → ((x : X) → P (f x)) → IfSome (option_map f o) P
  mapped None f h = tt
  mapped (Some x) f h = h x

  if_so : (b : Bool) (o : Option Value) → IfSome o P → IfSome (cond b o None) P
  if_so true o h = h
  if_so false o h = tt

-- a text that is found with a test passes it
passes : (test : List ℕ → Bool) (o : Option (List ℕ)) (text : List ℕ)
    → option_and_then (λ t. cond (test t) (Some t) None) o ≡ Some text → test text ≡ true
passes test None text is = absurd (cc)
passes test (Some t) text is =
    elim (test t) as (λ b. test t ≡ b → cond b (Some t) None ≡ Some text → test text ≡ true) [
      | true ↦ λ so same. ap test (sym (inside t text same)) ∙ so
      | false ↦ λ _ none. absurd (cc)
    ] refl is
  where
    inside : (a b : List ℕ) → Some a ≡ Some b → a ≡ b
    inside a b same = cc

value_in-under : (key : Key) (d : Data) → IfSome (value_in key d) (IsUnder key)
value_in-under (keys.Schema subject version) d =
    let P : Value → Type 0 = IsUnder (keys.Schema subject version) in
    let of_deleted : ℕ → List ℕ → Option Value =
    λ id schema. option_map (λ deleted. values.Schema subject version id schema deleted) (deleted_in d) in
    let of_schema : ℕ → Option Value = λ id. option_and_then (of_deleted id) (text_where is_schema (codes "schema") d) in
    if_so P (has_text_at (codes "subject") subject d && has_number_at (codes "version") version d && is_plain_avro d)
    (option_and_then of_schema (number_at (codes "id") d))
    (each_some P (number_at (codes "id") d) of_schema (λ id _.
    each_some P (text_where is_schema (codes "schema") d) (of_deleted id) (λ schema is.
    mapped P (deleted_in d) (λ deleted. values.Schema subject version id schema deleted)
    (λ deleted. (refl, passes is_schema (text_at (codes "schema") d) schema is)))))
value_in-under (keys.Config scope) d =
    mapped (IsUnder (keys.Config scope)) (text_where is_level (codes "compatibilityLevel") d) (λ level. values.Config level) (λ level. refl)
value_in-under (keys.Mode scope) d = mapped (IsUnder (keys.Mode scope)) (text_at (codes "mode") d) (λ mode. values.Mode mode) (λ mode. refl)
value_in-under (keys.DeleteSubject subject) d =
    let P : Value → Type 0 = IsUnder (keys.DeleteSubject subject) in
    if_so P (has_text_at (codes "subject") subject d)
    (option_map (λ version. values.DeleteSubject subject version) (number_at (codes "version") d))
    (mapped P (number_at (codes "version") d) (λ version. values.DeleteSubject subject version) (λ version. refl))
value_in-under keys.Noop d = refl
value_in-under keys.IdMark d = mapped (IsUnder keys.IdMark) (number_at (codes "id") d) (λ id. values.IdMark id) (λ id. refl)

read-under : (key : Key) (text : List ℕ) → IfSome (option_and_then (value_in key) (read text)) (IsUnder key)
read-under key text = each_some (IsUnder key) (read text) (value_in key) (λ d _. value_in-under key d)

value_of_text-under : (key : Key) (text : List ℕ) → IfSome (value_of_text key text) (IsUnder key)
value_of_text-under (keys.Schema subject version) text = read-under (keys.Schema subject version) text
value_of_text-under (keys.Config scope) text = read-under (keys.Config scope) text
value_of_text-under (keys.Mode scope) text = read-under (keys.Mode scope) text
value_of_text-under (keys.DeleteSubject subject) text = read-under (keys.DeleteSubject subject) text
value_of_text-under keys.Noop text = refl
value_of_text-under keys.IdMark text = read-under keys.IdMark text

pub value_of-under : (r : Record) → IfSome (value_of r) (IsUnder r.key)
value_of-under r = each_some (IsUnder r.key) r.value (value_of_text r.key) (λ text _. value_of_text-under r.key text)

-- a value that gives an entry is a version's, with that subject, version, id and text
pub record IsShown (o : Option Value) (e : Entry) : Type 0 where
  pub deleted : Bool
  pub value : o ≡ Some (values.Schema e.subject e.version e.id e.text deleted)
  pub normal : e.normal ≡ normal_of e.text

shown : (rs : Records) (offset : ℕ) (o : Option Value) (e : Entry) → option_and_then (entry_in rs offset) o ≡ Some e → IsShown o e
shown rs offset None e is = absurd (cc)
shown rs offset (Some (values.Schema subject version id schema deleted)) e is =
    subst (λ f. IsShown (Some (values.Schema subject version id schema deleted)) (unwrap_or f e)) is
    (record { deleted = deleted; value = refl; normal = refl })
shown rs offset (Some (values.Config level)) e is = absurd (cc)
shown rs offset (Some (values.Mode mode)) e is = absurd (cc)
shown rs offset (Some (values.DeleteSubject subject version)) e is = absurd (cc)
shown rs offset (Some values.Noop) e is = absurd (cc)
shown rs offset (Some (values.IdMark id)) e is = absurd (cc)

module _ (rs : Records) (r : Record) (e : Entry) (is : entry_of rs r ≡ Some e) where
  pub entry_of-shown : IsShown (value_of r) e
  unfolding entry_of
  entry_of-shown = shown rs r.offset (value_of r) e is

  -- it stands under the key of that subject and version, and its text is a schema's
  pub entry_of-under : (r.key ≡ keys.Schema e.subject e.version) × (is_schema e.text ≡ true)
  entry_of-under = subst (λ o. IfSome o (IsUnder r.key)) entry_of-shown.value (value_of-under r)
