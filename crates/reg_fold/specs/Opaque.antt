-- Opaque versions: records of SCHEMA keys whose text can't be read as a value. Below, rs are the last records.
use Rattle.std.specs.Prelude.{◌≡◌, ◌↔◌, ℕ, min, Bool, false, ◌&&◌, Option, Some, None, is_some, is_none, map}
use Rattle.std.specs.List.{filter, reduce}
use Rattle.reg_values.specs.Value.{value_of}
use Rattle.reg_values.specs.reg_records.declared.key.Key.{Key}
use Rattle.reg_values.specs.reg_records.declared.record.Record.{Record}
use Rattle.reg_values.specs.reg_records.Key.{key_version}
use Rattle.reg_set.specs.LastRecords.{last, last_records}
use Rattle.reg_set.specs.Records.{Records, records_of}

abbrev pub is_version : Key → Bool
is_version key = is_some (key_version key)

-- whether the record has a text for a version, and it can't be read
unfoldable pub is_opaque : Record → Bool
is_opaque r = is_version r.key && is_some r.value && is_none (value_of r)

-- the least offset of such a record
unfoldable pub opaque : Records → Option ℕ
opaque rs = reduce min (map (λ r. r.offset) (filter is_opaque (records_of rs)))

-- there is none exactly where no key's last record is opaque
abbrev pub NoneIsNoOpaqueLast : Type 0
NoneIsNoOpaqueLast = (whole : Records) → (opaque (last_records whole) ≡ None)
    ↔ ((key : Key) (r : Record) → last whole key ≡ Some r → is_opaque r ≡ false)
