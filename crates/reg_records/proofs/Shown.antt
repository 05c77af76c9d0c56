-- What is written for a key or a value holds no control character.
use Rattle.std.proofs.Common.{◌≡◌, ℕ, ◌≤◌, Bool, true, false, Some, None, bytes_eq, codes, unwrap_or, refl, subst, arith}
use Rattle.std.specs.Option.{ForSome}
use Rattle.json.specs.Print.{quoted}
use Rattle.serde_json.specs.Data.{Data, null, object, Members, no_members, member}
use Rattle.serde_json.specs.Written.{comma_if, compact_text, members_text}
use Rattle.reg_records.specs.declared.key.Key.{Key}
use Rattle.reg_records.specs.declared.key.Key.TheVariants.{Schema, Config, Mode, DeleteSubject, Noop, IdMark}
use Rattle.reg_records.specs.declared.value.Value.{Value}
use Rattle.reg_records.specs.declared.value.Value.TheVariants as values
use Rattle.reg_records.specs.declared.limits.TheConstants.{OFFSET_LIMIT}
use Rattle.reg_records.specs.Written.{key_data, written_key}
use Rattle.reg_records.specs.WrittenValue.{value_data, written_value}
use Rattle.reg_records.specs.Written.{IsInLimits, HasNumbersInLimits}
use Rattle.reg_records.specs.Written.{IsValueField, HasLine}
use Rattle.reg_records.proofs.Controls.{are_shown, are_shown-append, are_shown-quoted, are_shown-decimal, is_free_of-are_shown}

-- the texts of the members' values hold none
abbrev ShowsValues : Members → Type 0
ShowsValues no_members = Unit {0}
ShowsValues (member k d ms) = (are_shown (compact_text d) ≡ true) × ShowsValues ms

are_shown-comma_if : (later : Bool) → are_shown (comma_if later) ≡ true
are_shown-comma_if true = refl
are_shown-comma_if false = refl

are_shown-members_text : (later : Bool) (ms : Members) → ShowsValues ms → are_shown (members_text later ms) ≡ true
are_shown-members_text later no_members h = refl
are_shown-members_text later (member k d ms) h =
    are_shown-append (comma_if later) _ (are_shown-comma_if later)
    (are_shown-append (quoted k) _ (are_shown-quoted k)
    (are_shown-append (compact_text d) _ h.0 (are_shown-members_text true ms h.1)))

-- the data is an object whose members' values show
abbrev ShowsObject : Data → Type 0
ShowsObject (object ms) = ShowsValues ms
ShowsObject d = ⊥

are_shown-compact_text : (d : Data) → ShowsObject d → are_shown (compact_text d) ≡ true
are_shown-compact_text (object ms) h = are_shown-members_text false ms h
are_shown-compact_text _ h = absurd h

begins_apart : (d : Data) → ShowsObject d → bytes_eq (compact_text d) (codes "null") ≡ false
begins_apart (object ms) h = refl
begins_apart _ h = absurd h

pub are_shown-written_key : (k : Key) → IsInLimits k → are_shown (written_key k) ≡ true
unfolding written_key
are_shown-written_key (Schema subject version) h =
    are_shown-compact_text (key_data (Schema subject version)) (
      are_shown-quoted (codes "SCHEMA"),
      (are_shown-quoted subject, (are_shown-decimal version (omega (arith, h.1)), (are_shown-decimal 1 (omega arith), tt))),
    )
are_shown-written_key (Config None) h =
    are_shown-compact_text (key_data (Config None)) (are_shown-quoted (codes "CONFIG"), (refl, (are_shown-decimal 0 (omega arith), tt)))
are_shown-written_key (Config (Some subject)) h =
    are_shown-compact_text (key_data (Config (Some subject)))
    (are_shown-quoted (codes "CONFIG"), (are_shown-quoted subject, (are_shown-decimal 0 (omega arith), tt)))
are_shown-written_key (Mode None) h =
    are_shown-compact_text (key_data (Mode None)) (are_shown-quoted (codes "MODE"), (refl, (are_shown-decimal 0 (omega arith), tt)))
are_shown-written_key (Mode (Some subject)) h =
    are_shown-compact_text (key_data (Mode (Some subject)))
    (are_shown-quoted (codes "MODE"), (are_shown-quoted subject, (are_shown-decimal 0 (omega arith), tt)))
are_shown-written_key (DeleteSubject subject) h =
    are_shown-compact_text (key_data (DeleteSubject subject))
    (are_shown-quoted (codes "DELETE_SUBJECT"), (are_shown-quoted subject, (are_shown-decimal 0 (omega arith), tt)))
are_shown-written_key Noop h =
    are_shown-compact_text (key_data Noop) (are_shown-quoted (codes "NOOP"), (are_shown-decimal 0 (omega arith), tt))
are_shown-written_key IdMark h =
    are_shown-compact_text (key_data IdMark) (are_shown-quoted (codes "ID_MARK"), (are_shown-decimal 0 (omega arith), tt))

-- the text of an object can stand as the value of a line
object_field : (d : Data) → ShowsObject d → ForSome (Some (compact_text d)) IsValueField
object_field d h text e =
    let shown = are_shown-compact_text d h in
    let same : compact_text d ≡ text = cc in
    subst IsValueField same (
      is_free_of-are_shown 9 (omega arith) (compact_text d) shown,
      is_free_of-are_shown 10 (omega arith) (compact_text d) shown,
      begins_apart d h,
    )

abbrev data_of : Value → Data
data_of v = unwrap_or (value_data v) null

-- the text that is written for a value can stand as the value of a line
field_of_value : (v : Value) → HasNumbersInLimits v → ForSome (written_value v) IsValueField
unfolding written_value
field_of_value (values.Schema subject version id schema true) h =
    object_field (data_of (values.Schema subject version id schema true)) (
      are_shown-quoted subject,
      (
        are_shown-decimal version (omega (arith, h.0.1)),
        (are_shown-decimal id (omega (arith, h.1.1)), (are_shown-quoted schema, (refl, tt))),
      ),
    )
field_of_value (values.Schema subject version id schema false) h =
    object_field (data_of (values.Schema subject version id schema false)) (
      are_shown-quoted subject,
      (
        are_shown-decimal version (omega (arith, h.0.1)),
        (are_shown-decimal id (omega (arith, h.1.1)), (are_shown-quoted schema, (refl, tt))),
      ),
    )
field_of_value (values.Config level) h = object_field (data_of (values.Config level)) (are_shown-quoted level, tt)
field_of_value (values.Mode mode) h = object_field (data_of (values.Mode mode)) (are_shown-quoted mode, tt)
field_of_value (values.DeleteSubject subject version) h =
    object_field (data_of (values.DeleteSubject subject version))
    (are_shown-quoted subject, (are_shown-decimal version (omega (arith, h.1)), tt))
field_of_value values.Noop h = λ text none. absurd (cc)
field_of_value (values.IdMark id) h = object_field (data_of (values.IdMark id)) (are_shown-decimal id (omega (arith, h.1)), tt)

pub HasLine-written_value : (offset : ℕ) (k : Key) (v : Value) → offset ≤ OFFSET_LIMIT → IsInLimits k
    → HasNumbersInLimits v → HasLine (record { offset = offset; key = k; value = written_value v })
HasLine-written_value offset k v fits key h = record { offset_fits = fits; key_fits = key; value_fits = field_of_value v h }
