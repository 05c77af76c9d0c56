-- Which id a schema has, and registries that take no commands. Below, rs are the last records.
use Rattle.std.specs.Prelude.{ℕ, List, Bool, ◌||◌, Option, is_some}
use Rattle.reg_entries.specs.Sought as sought
use Rattle.reg_set.specs.Records.{Records}
use Rattle.reg_fold.specs.Entries.{entries}
use Rattle.reg_fold.specs.Opaque.{opaque}

-- the least id of an entry of that normal text, soft ones too
abbrev pub id_of : Records → List ℕ → Option ℕ
id_of rs normal = sought.id_of (entries rs) normal

-- the least id that names two schemas, soft ones too
abbrev pub two_schemas : Records → Option ℕ
two_schemas rs = sought.two_schemas (entries rs)

-- a version's record can't be read, or an id names two schemas
abbrev pub is_closed : Records → Bool
is_closed rs = is_some (opaque rs) || is_some (two_schemas rs)
