-- Private: records that a registry can add without memory.
use Rattle.std.specs.Prelude.{Bool, ◌&&◌, is_none, is_some}
use Rattle.reg_values.specs.reg_records.declared.record.Record.{Record}
use Rattle.reg_set.specs.LastRecords.{last}
use Rattle.reg_set.specs.Records.{Records}
use Rattle.reg_fold.specs.Opaque.{is_version}

-- whether the record is a version's without a value, whose key has a record among the last ones
abbrev pub is_tombstone : Records → Record → Bool
is_tombstone rs r = is_version r.key && (is_none r.value && is_some (last rs r.key))
