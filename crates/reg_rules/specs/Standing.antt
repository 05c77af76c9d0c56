-- What commands ask of the entries. Below, rs are the last records.
use Rattle.std.specs.Prelude.{ℕ, suc, List, Bool, true, false, ◌==◌, ◌&&◌, not, Option, unwrap_or}
use Rattle.std.specs.Option.{option_map_or}
use Rattle.reg_modes.specs.reg_entries.Sought.{counting, has_schema}
use Rattle.reg_modes.specs.reg_entries.declared.entry.Entry.{Entry}
use Rattle.reg_modes.specs.reg_fold.Closed.{id_of}
use Rattle.reg_modes.specs.reg_fold.Entries.{entries}
use Rattle.reg_modes.specs.reg_fold.IdMark.{last_id}
use Rattle.reg_modes.specs.reg_fold.Standing.{greatest_version, named, version_in}
use Rattle.reg_modes.specs.reg_fold.declared.version_ref.VersionRef.{VersionRef}
use Rattle.reg_modes.specs.reg_fold.declared.version_ref.VersionRef.TheVariants.{Latest, Number}
use Rattle.reg_modes.specs.reg_set.Records.{Records}

-- whether an entry has that id, and the schema of that normal text
abbrev pub is_of : ℕ → List ℕ → Entry → Bool
is_of id normal e = (e.id == id) && has_schema normal e

-- the entries of a subject, soft ones too
abbrev pub standing : Records → List ℕ → List Entry
standing rs subject = counting (entries rs) subject true

-- the entry that a delete names: the latest is the greatest live one, and a number may name a soft one
abbrev pub version_meant : Records → List ℕ → VersionRef → Option Entry
version_meant rs subject Latest = version_in (entries rs) subject Latest false
version_meant rs subject (Number version) = version_in (entries rs) subject (Number version) true

-- the id of a schema that is registered: the least that an entry has it under, else one
-- more than the greatest that is marked or that an entry has, or 1
abbrev pub id_for : Records → List ℕ → ℕ
id_for rs normal = unwrap_or (id_of rs normal) (suc (last_id rs))

-- one more than the greatest version of the subject, soft ones too, or 1
abbrev pub next_version : Records → List ℕ → ℕ
next_version rs subject = option_map_or suc (greatest_version rs subject) 1

-- whether the id names another schema: the entry that it names, which may be soft, has another
-- one. In a registry that takes commands all entries of an id have one schema.
abbrev pub names_another : Records → ℕ → List ℕ → Bool
names_another rs id normal = option_map_or (λ e. not (has_schema normal e)) (named rs id) false
