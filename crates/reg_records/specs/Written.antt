-- What is written for a key, compact JSON with its members in this order, and for a record.
use Rattle.std.specs.Prelude.{◌≡◌, ◌<◌, ◌≤◌, ◌^◌, ⊤, ℕ, List, true, false}
use Rattle.std.specs.Prelude.{IfSome, unwrap_or, bytes_eq, codes, decimal}
use Rattle.std.specs.Option.{ForSome, option_map_or}
use Rattle.serde_json.specs.Data.{unsigned, Data, null, number, string, object, Members, no_members, member}
use Rattle.serde_json.specs.Written.{compact_text}
use Rattle.reg_records.specs.declared.key.Key.{Key}
use Rattle.reg_records.specs.declared.key.Key.TheVariants.{Schema, Config, Mode, DeleteSubject, Noop, IdMark}
use Rattle.reg_records.specs.declared.limits.TheConstants.{NUMBER_LIMIT, OFFSET_LIMIT}
use Rattle.reg_records.specs.declared.record.Record.{Record}
use Rattle.reg_records.specs.declared.value.Value.{Value}
use Rattle.reg_records.specs.declared.value.Value.TheVariants as values
use Rattle.reg_records.specs.Key.{key_version}
use Rattle.reg_records.specs.Line.{is_tab, is_line_feed, is_free_of, line_of}

-- the version of the keys' own format
abbrev pub magic : ℕ → Members
magic n = member (codes "magic") (number (unsigned n)) no_members

abbrev pub of_kind : List ℕ → Members → Data
of_kind kind rest = object (member (codes "keytype") (string kind) rest)

-- the object that is written for a key; the global scope is null
abbrev pub key_data : Key → Data
key_data (Schema subject version) =
    of_kind (codes "SCHEMA") (member (codes "subject") (string subject) (member (codes "version") (number (unsigned version)) (magic 1)))
key_data (Config scope) = of_kind (codes "CONFIG") (member (codes "subject") (option_map_or string scope null) (magic 0))
key_data (Mode scope) = of_kind (codes "MODE") (member (codes "subject") (option_map_or string scope null) (magic 0))
key_data (DeleteSubject subject) = of_kind (codes "DELETE_SUBJECT") (member (codes "subject") (string subject) (magic 0))
key_data Noop = of_kind (codes "NOOP") (magic 0)
key_data IdMark = of_kind (codes "ID_MARK") (magic 0)

-- its text
unfoldable pub written_key : Key → List ℕ
written_key k = compact_text (key_data k)

-- the key's version is a number of 32 bits
abbrev pub IsOf32Bits : Key → Type 0
IsOf32Bits k = IfSome (key_version k) (λ version. version < 2 ^ 32)

-- a version or an id, from 1 to its limit
abbrev pub IsVersionOrId : ℕ → Type 0
IsVersionOrId n = (1 ≤ n) × (n ≤ NUMBER_LIMIT)

-- the key's version is within its limits
abbrev pub IsInLimits : Key → Type 0
IsInLimits k = IfSome (key_version k) IsVersionOrId

-- the value's numbers are within their limits
abbrev pub HasNumbersInLimits : Value → Type 0
HasNumbersInLimits (values.Schema subject version id schema deleted) = IsVersionOrId version × IsVersionOrId id
HasNumbersInLimits (values.Config level) = ⊤
HasNumbersInLimits (values.Mode mode) = ⊤
HasNumbersInLimits (values.DeleteSubject subject version) = IsVersionOrId version
HasNumbersInLimits values.Noop = ⊤
HasNumbersInLimits (values.IdMark id) = IsVersionOrId id

-- a text that can stand as the value of a line: no TAB, no LF, and not the text `null`
abbrev pub IsValueField : List ℕ → Type 0
IsValueField text = (is_free_of is_tab text ≡ true) × (is_free_of is_line_feed text ≡ true) × (bytes_eq text (codes "null") ≡ false)

-- the record can be written as a line, if that isn't too long
pub record HasLine (r : Record) : Type 0 where
  pub offset_fits : r.offset ≤ OFFSET_LIMIT
  pub key_fits : IsInLimits r.key
  pub value_fits : ForSome r.value IsValueField

-- the line of a record, without its LF
abbrev pub line_text : Record → List ℕ
line_text r = line_of (decimal r.offset) (written_key r.key) (unwrap_or r.value (codes "null"))
