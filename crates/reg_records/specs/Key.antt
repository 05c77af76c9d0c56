-- The key that a JSON text gives, and its version.
use Rattle.std.specs.Prelude.{ℕ, Bool, true, false, List, Option, Some, None, option_map, option_and_then, bytes_eq, codes, if◌then◌else◌}
use Rattle.std.specs.Option.{option_map_or}
use Rattle.serde_json.specs.Data.{Data}
use Rattle.serde_json.specs.Find.{get, as_str}
use Rattle.serde_json.specs.Read.{read}
use Rattle.reg_records.specs.Json.{is_null, text_at, number_at}
use Rattle.reg_records.specs.declared.key.Key.{Key}
use Rattle.reg_records.specs.declared.key.Key.TheVariants as keys

-- a version of a subject: a string, and a number within its limits
abbrev pub schema_key : Data → Option Key
schema_key d = option_and_then (λ subject. option_map (keys.Schema subject) (number_at (codes "version") d)) (text_at (codes "subject") d)

-- the scope of a level or a mode: the global one where the subject is absent or null, and a subject where it is a string
abbrev pub scope_in : Data → Option (Option (List ℕ))
scope_in d = option_map_or (λ found. if is_null found then Some None else option_map Some (as_str found))
    (get (codes "subject") d) (Some None)

-- the key of that kind; the other members don't count
abbrev pub key_of_kind : List ℕ → Data → Option Key
key_of_kind kind d =
    if bytes_eq kind (codes "SCHEMA") then schema_key d
    else (if bytes_eq kind (codes "CONFIG") then option_map keys.Config (scope_in d)
    else (if bytes_eq kind (codes "MODE") then option_map keys.Mode (scope_in d)
    else (if bytes_eq kind (codes "DELETE_SUBJECT") then option_map keys.DeleteSubject (text_at (codes "subject") d)
    else (if bytes_eq kind (codes "NOOP") then Some keys.Noop
    else (if bytes_eq kind (codes "ID_MARK") then Some keys.IdMark else None)))))

-- the key that a text is: its kind is the string `keytype`
abbrev pub key_of : List ℕ → Option Key
key_of text = option_and_then (λ d. option_and_then (λ kind. key_of_kind kind d) (text_at (codes "keytype") d)) (read text)

-- the version that a key has
abbrev pub key_version : Key → Option ℕ
key_version (keys.Schema subject version) = Some version
key_version (keys.Config scope) = None
key_version (keys.Mode scope) = None
key_version (keys.DeleteSubject subject) = None
key_version keys.Noop = None
key_version keys.IdMark = None

-- whether it is the key of a subject's soft deletes
abbrev pub is_delete : Key → Bool
is_delete (keys.Schema subject version) = false
is_delete (keys.Config scope) = false
is_delete (keys.Mode scope) = false
is_delete (keys.DeleteSubject subject) = true
is_delete keys.Noop = false
is_delete keys.IdMark = false
