-- What is read under a key is of that key, and within the limits.
use Rattle.std.proofs.Common.{◌≡◌, ◌⊎◌, inl, inr, ◌==◌, ◌&&◌, ℕ, Bool, true, false, cond, nat_le, codes, List, Option}
use Rattle.std.proofs.Common.{Some, None, option_and_then, option_map, refl, sym, ap, subst, ◌∙◌, eqb-true}
use Rattle.std.proofs.lemmas.Bool.{false≢true, leb-true}
use Rattle.std.specs.Option.{option_map_or}
use Rattle.std.specs.Prelude.{IfSome}
use Rattle.serde_json.specs.Data.{Data}
use Rattle.serde_json.specs.Find.{as_number, as_u64, get}
use Rattle.serde_json.specs.Read.{read}
use Rattle.avro_schema.specs.Schema.{is_schema}
use Rattle.reg_level_names.specs.Level.{is_level}
use Rattle.reg_records.specs.Json.{has_number_at, has_text_at, number_at, text_at, text_where}
use Rattle.reg_values.specs.Value.{deleted_in, is_plain_avro, value_in, value_of, value_of_text}
use Rattle.reg_records.specs.Written.{IsVersionOrId, HasNumbersInLimits}
use Rattle.reg_values.specs.OfKey.{IsValueOf, ValuesAreOfKeys}
use Rattle.reg_records.specs.declared.key.Key.{Key}
use Rattle.reg_records.specs.declared.key.Key.TheVariants as keys
use Rattle.reg_records.specs.declared.limits.TheConstants.{NUMBER_LIMIT}
use Rattle.reg_records.specs.declared.record.Record.{Record}
use Rattle.reg_records.specs.declared.value.Value.{Value}
use Rattle.reg_records.specs.declared.value.Value.TheVariants as values

both_true : (a b : Bool) → (a && b) ≡ true → (a ≡ true) × (b ≡ true)
both_true true b h = (refl, h)
both_true false b h = absurd (false≢true h)

abbrev IsOf : Key → Value → Type 0
IsOf key v = IsValueOf key v ⊎ ((key ≡ keys.Noop) × (v ≡ values.Noop))

module _ (P : Value → Type 0) where
  each_some : {X : Type 0} (o : Option X) (f : X → Option Value) → ((x : X) → o ≡ Some x → IfSome (f x) P) → IfSome (option_and_then f o) P
  each_some None f h = tt
  each_some (Some x) f h = h x refl

  mapped : {X : Type 0} (o : Option X) (f : X → Value) → ((x : X) → o ≡ Some x → P (f x)) → IfSome (option_map f o) P
  mapped None f h = tt
  mapped (Some x) f h = h x refl

  if_so : (b : Bool) (o : Option Value) → (b ≡ true → IfSome o P) → IfSome (cond b o None) P
  if_so true o h = h refl
  if_so false o h = tt

inside : {X : Type 0} (a b : X) → Some a ≡ Some b → a ≡ b
inside a b same = cc

-- what is kept by a test passes it
passes : {X : Type 0} (test : X → Bool) (o : Option X) (x : X)
    → option_and_then (λ y. cond (test y) (Some y) None) o ≡ Some x → test x ≡ true
passes test None x is = absurd (cc)
passes test (Some y) x is =
    elim (test y) as (λ b. test y ≡ b → cond b (Some y) None ≡ Some x → test x ≡ true) [
      | true ↦ λ so same. ap test (sym (inside y x same)) ∙ so
      | false ↦ λ _ none. absurd (cc)
    ] refl is

-- a number that is read is within the limits
number_fits : (name : List ℕ) (d : Data) (n : ℕ) → number_at name d ≡ Some n → IsVersionOrId n
number_fits name d n is =
    let within = both_true (nat_le 1 n) (nat_le n NUMBER_LIMIT)
    (passes (λ n. nat_le 1 n && nat_le n NUMBER_LIMIT) (option_and_then as_u64 (option_and_then as_number (get name d))) n is) in
    (leb-true 1 n within.0, leb-true n NUMBER_LIMIT within.1)

named_fits : (name : List ℕ) (n : ℕ) (d : Data) → has_number_at name n d ≡ true → IsVersionOrId n
named_fits name n d is =
    elim (number_at name d) as (λ o. number_at name d ≡ o → option_map_or (λ found. found == n) o false ≡ true → IsVersionOrId n) [
      | None ↦ λ _ h. absurd (false≢true h)
      | Some found ↦ λ at h. subst IsVersionOrId (eqb-true found n h) (number_fits name d found at)
    ] refl is

value_in-of : (key : Key) (d : Data) → IfSome (value_in key d) (IsOf key)
value_in-of (keys.Schema subject version) d =
    let P : Value → Type 0 = IsOf (keys.Schema subject version) in
    let of_deleted : ℕ → List ℕ → Option Value =
    λ id schema. option_map (λ deleted. values.Schema subject version id schema deleted) (deleted_in d) in
    let of_schema : ℕ → Option Value = λ id. option_and_then (of_deleted id) (text_where is_schema (codes "schema") d) in
    let named = has_text_at (codes "subject") subject d in
    let numbered = has_number_at (codes "version") version d in
    if_so P (named && numbered && is_plain_avro d) (option_and_then of_schema (number_at (codes "id") d)) (λ so.
    let fits = named_fits (codes "version") version d (both_true named numbered (both_true (named && numbered) (is_plain_avro d) so).0).1 in
    each_some P (number_at (codes "id") d) of_schema (λ id at.
    each_some P (text_where is_schema (codes "schema") d) (of_deleted id) (λ schema is.
    mapped P (deleted_in d) (λ deleted. values.Schema subject version id schema deleted) (λ deleted _.
    inl (refl, fits, number_fits (codes "id") d id at, passes is_schema (text_at (codes "schema") d) schema is)))))
value_in-of (keys.Config scope) d =
    mapped (IsOf (keys.Config scope)) (text_where is_level (codes "compatibilityLevel") d) (λ level. values.Config level) (λ level is.
    inl (scope, refl, passes is_level (text_at (codes "compatibilityLevel") d) level is))
value_in-of (keys.Mode scope) d =
    mapped (IsOf (keys.Mode scope)) (text_at (codes "mode") d) (λ mode. values.Mode mode) (λ mode _. inl (scope, refl))
value_in-of (keys.DeleteSubject subject) d =
    let P : Value → Type 0 = IsOf (keys.DeleteSubject subject) in
    if_so P (has_text_at (codes "subject") subject d)
    (option_map (λ version. values.DeleteSubject subject version) (number_at (codes "version") d)) (λ _.
    mapped P (number_at (codes "version") d) (λ version. values.DeleteSubject subject version) (λ version at.
    inl (refl, number_fits (codes "version") d version at)))
value_in-of keys.Noop d = inr (refl, refl)
value_in-of keys.IdMark d =
    mapped (IsOf keys.IdMark) (number_at (codes "id") d) (λ id. values.IdMark id) (λ id at. inl (refl, number_fits (codes "id") d id at))

read-of : (key : Key) (text : List ℕ) → IfSome (option_and_then (value_in key) (read text)) (IsOf key)
read-of key text = each_some (IsOf key) (read text) (value_in key) (λ d _. value_in-of key d)

value_of_text-of : (key : Key) (text : List ℕ) → IfSome (value_of_text key text) (IsOf key)
value_of_text-of (keys.Schema subject version) text = read-of (keys.Schema subject version) text
value_of_text-of (keys.Config scope) text = read-of (keys.Config scope) text
value_of_text-of (keys.Mode scope) text = read-of (keys.Mode scope) text
value_of_text-of (keys.DeleteSubject subject) text = read-of (keys.DeleteSubject subject) text
value_of_text-of keys.Noop text = inr (refl, refl)
value_of_text-of keys.IdMark text = read-of keys.IdMark text

value_of-of : (r : Record) → IfSome (value_of r) (IsOf r.key)
value_of-of r = each_some (IsOf r.key) r.value (value_of_text r.key) (λ text _. value_of_text-of r.key text)

pub values_are_of_keys : ValuesAreOfKeys
values_are_of_keys r v is = subst (λ o. IfSome o (IsOf r.key)) is (value_of-of r)

-- a value that may stand under a key has its numbers within their limits
pub has_numbers_in_limits : (key : Key) (v : Value) → IsValueOf key v → HasNumbersInLimits v
has_numbers_in_limits key (values.Schema subject version id schema deleted) h = (h.1, h.2)
has_numbers_in_limits key (values.Config level) h = tt
has_numbers_in_limits key (values.Mode mode) h = tt
has_numbers_in_limits key (values.DeleteSubject subject version) h = h.1
has_numbers_in_limits key values.Noop h = absurd h
has_numbers_in_limits key (values.IdMark id) h = h.1
