-- The tests of commands, each with its refusal. Below, rs are the last records and n the next offset.
use Rattle.std.specs.Prelude.{ℕ, List, Bool, true, false, nat_le, nat_lt, ◌&&◌, ◌||◌, Some, is_some, Err}
use Rattle.reg_modes.specs.avro_schema.Reading.{has_valid_defaults}
use Rattle.reg_modes.specs.avro_schema.Schema.{Meaning}
use Rattle.reg_modes.specs.reg_entries.Sought.{has_live}
use Rattle.reg_modes.specs.reg_fold.Closed.{two_schemas}
use Rattle.reg_modes.specs.reg_fold.Entries.{entries}
use Rattle.reg_modes.specs.reg_fold.IdMark.{id_mark}
use Rattle.reg_modes.specs.reg_fold.InForce.{Scope}
use Rattle.reg_modes.specs.reg_fold.Opaque.{opaque}
use Rattle.reg_modes.specs.reg_fold.Standing.{greatest_version, named}
use Rattle.reg_modes.specs.Permitted.{Permit, granted, may_set_import}
use Rattle.reg_modes.specs.declared.mode.Mode.{Mode}
use Rattle.reg_modes.specs.declared.mode.Mode.TheVariants as modes
use Rattle.reg_modes.specs.reg_records.declared.limits.TheConstants.{NUMBER_LIMIT, OFFSET_LIMIT}
use Rattle.reg_modes.specs.reg_refusals.declared.reason.Reason.TheVariants as reasons
use Rattle.reg_modes.specs.reg_refusals.declared.reason.StoreFault.TheVariants as faults
use Rattle.reg_modes.specs.reg_refusals.declared.refusal.Refusal.{Refusal}
use Rattle.reg_modes.specs.reg_refusals.declared.refusal.Refusal.TheVariants as refusals
use Rattle.reg_modes.specs.reg_set.Records.{Records}
use Rattle.reg_rules.specs.Standing.{names_another}

-- the refusal, unless the test passes
abbrev pub refuse_unless : Bool → Refusal → Permit
refuse_unless true refusal = granted
refuse_unless false refusal = Err refusal

abbrev pub refuse_if : Bool → Refusal → Permit
refuse_if true refusal = Err refusal
refuse_if false refusal = granted

abbrev pub numbers_used_up : Refusal
numbers_used_up = refusals.Store faults.NumbersUsedUp

-- the schema's defaults are valid
abbrev pub must_have_valid_defaults : Meaning → Permit
must_have_valid_defaults schema = refuse_unless (has_valid_defaults schema) refusals.InvalidSchema

abbrev pub if_not_opaque : Bool → Permit → Permit
if_not_opaque true else = Err (refusals.Store faults.OpaqueRecord)
if_not_opaque false else = else

-- the registry isn't closed; where it is for both causes, the opaque record is reported
abbrev pub must_be_open : Records → Permit
must_be_open rs = if_not_opaque (is_some (opaque rs)) (refuse_if (is_some (two_schemas rs)) (refusals.Store faults.TwoSchemas))

-- there is an offset left
abbrev pub must_have_offset : ℕ → Permit
must_have_offset n = refuse_unless (nat_le n OFFSET_LIMIT) numbers_used_up

-- a version or an id is within its limits
abbrev pub must_be_number : ℕ → Permit
must_be_number number = refuse_unless (nat_le 1 number && nat_le number NUMBER_LIMIT) numbers_used_up

-- the mode may be set: IMPORT not over a live version of the scope, unless it is forced
abbrev pub must_allow_mode : Records → Scope → Mode → Bool → Permit
must_allow_mode rs scope modes.Import force = may_set_import rs scope force
must_allow_mode rs scope modes.Readonly force = granted
must_allow_mode rs scope modes.Readwrite force = granted

-- the id names no other schema
abbrev pub must_name_no_other : Records → ℕ → List ℕ → Permit
must_name_no_other rs id normal = refuse_if (names_another rs id normal) (refusals.NotPermitted reasons.IdNamesAnotherSchema)

-- the id has an entry, soft ones too, or is above the mark: no other is given away, since it may have been another schema's
abbrev pub must_be_above_mark : Records → ℕ → Permit
must_be_above_mark rs id = refuse_unless (is_some (named rs id) || nat_lt (id_mark rs) id) (refusals.NotPermitted reasons.IdIsNotAboveMark)

-- the subject has an entry; a live one; no live one
abbrev pub must_stand : Records → List ℕ → Permit
must_stand rs subject = refuse_unless (is_some (greatest_version rs subject)) refusals.SubjectNotFound

abbrev pub must_be_live : Records → List ℕ → Permit
must_be_live rs subject = refuse_unless (has_live (entries rs) (Some subject)) refusals.SubjectSoftDeleted

abbrev pub must_not_be_live : Records → List ℕ → Permit
must_not_be_live rs subject = refuse_if (has_live (entries rs) (Some subject)) refusals.SubjectNotSoftDeleted
