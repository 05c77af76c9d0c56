-- What the JSON object in a body says.
use Rattle.std.specs.Prelude.{ℕ, ℤ, pos, negsuc, List, Bool, true, false, ◌||◌, ◌==◌, codes, Option, Some, None}
use Rattle.std.specs.Prelude.{ok_or, option_map, option_and_then, is_some, Result, Ok, Err, if◌then◌else◌}
use Rattle.std.specs.Option.{option_map_or}
use Rattle.std.specs.Str.{is_utf8}
use Rattle.serde_json.specs.Data.{Data, Num, unsigned, negative, float}
use Rattle.serde_json.specs.Find.{get, as_number, as_object}
use Rattle.serde_json.specs.Read.{read}
use Rattle.reg_leader.specs.declared.command.Command.{Command}
use Rattle.reg_leader.specs.declared.command.Command.TheVariants as commands
use Rattle.reg_leader.specs.reg_level_names.Level.{level_named}
use Rattle.reg_leader.specs.reg_level_names.declared.level.Level.{Level}
use Rattle.reg_leader.specs.reg_modes.Mode.{mode_named}
use Rattle.reg_leader.specs.reg_modes.declared.mode.Mode.{Mode}
use Rattle.reg_leader.specs.reg_records.Json.{is_null, text_at, number_at}
use Rattle.reg_leader.specs.reg_values.Value.{is_plain_avro}
use Rattle.reg_leader.specs.reg_refusals.declared.reason.Reason.TheVariants as reasons
use Rattle.reg_leader.specs.reg_refusals.declared.refusal.Refusal.{Refusal}
use Rattle.reg_leader.specs.reg_refusals.declared.refusal.Refusal.TheVariants as refusals

abbrev pub object_of : Data → Option Data
object_of d = if is_some (as_object d) then Some d else None

-- the JSON object that a body is (RFC 8259), in UTF-8
unfoldable pub body_of : List ℕ → Option Data
body_of bytes = if is_utf8 bytes then option_and_then object_of (read bytes) else None

-- what comes of a value that isn't refused
abbrev pub then_of : {A B : Type 0} → (A → Result B Refusal) → Result A Refusal → Result B Refusal
then_of f (Ok value) = f value
then_of f (Err refusal) = Err refusal

abbrev pub map_ok : {A B : Type 0} → (A → B) → Result A Refusal → Result B Refusal
map_ok f (Ok value) = Ok (f value)
map_ok f (Err refusal) = Err refusal

-- the text of an Avro schema that stands alone
abbrev pub schema_in : Data → Result (List ℕ) Refusal
schema_in d = if is_plain_avro d then ok_or (text_at (codes "schema") d) refusals.InvalidSchema else Err refusals.InvalidSchema

abbrev pub is_minus_one : ℤ → Bool
is_minus_one (pos n) = false
is_minus_one (negsuc n) = n == 0

-- the number is -1
abbrev pub is_minus_one_number : Num → Bool
is_minus_one_number (unsigned n) = false
is_minus_one_number (negative z) = is_minus_one z
is_minus_one_number (float x) = false

abbrev pub is_zero_number : Num → Bool
is_zero_number (unsigned n) = n == 0
is_zero_number (negative z) = false
is_zero_number (float x) = false

-- the number is -1 or 0
abbrev pub is_no_version : Num → Bool
is_no_version n = is_minus_one_number n || is_zero_number n

-- the member is absent, null or a number that the test has
abbrev pub is_left_out : (Num → Bool) → Option Data → Bool
is_left_out test None = true
is_left_out test (Some d) = is_null d || option_map_or test (as_number d) false

-- the number of the member, none where it is left out
abbrev pub number_or : Refusal → (Num → Bool) → List ℕ → Data → Result (Option ℕ) Refusal
number_or refusal left_out name d =
    if is_left_out left_out (get name d) then Ok None
    else ok_or (option_map (λ n. Some n) (number_at name d)) refusal

-- the id that a registration asks for: absent, null or -1 asks for no id
abbrev pub id_in : Data → Result (Option ℕ) Refusal
id_in d = number_or (refusals.NotPermitted reasons.InvalidId) is_minus_one_number (codes "id") d

-- the version that a registration asks for: absent, null, -1 or 0 asks for no version
abbrev pub version_in : Data → Result (Option ℕ) Refusal
version_in d = number_or refusals.InvalidVersion is_no_version (codes "version") d

-- a version needs an id
abbrev pub registration_of : List ℕ → List ℕ → Option ℕ → Option ℕ → Result Command Refusal
registration_of subject text (Some id) version = Ok (commands.ImportRegister subject text id version)
registration_of subject text None None = Ok (commands.Register subject text)
registration_of subject text None (Some version) = Err (refusals.NotPermitted reasons.VersionNeedsImport)

-- the registration that the body asks for, or the first of its faults
abbrev pub registration_in : List ℕ → Data → Result Command Refusal
registration_in subject d =
    then_of (λ text. then_of (λ id. then_of (λ version. registration_of subject text id version) (version_in d)) (id_in d)) (schema_in d)

-- the level that a body names
abbrev pub level_in : Data → Result Level Refusal
level_in d = ok_or (option_and_then level_named (text_at (codes "compatibility") d)) refusals.InvalidLevel

-- the mode that a body names
abbrev pub mode_in : Data → Result Mode Refusal
mode_in d = ok_or (option_and_then mode_named (text_at (codes "mode") d)) refusals.InvalidMode
