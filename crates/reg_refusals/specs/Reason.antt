-- The reasons of the codes that have several.
use Rattle.std.specs.Prelude.{ℕ, List, codes}
use Rattle.reg_refusals.specs.declared.reason.Reason.{Reason}
use Rattle.reg_refusals.specs.declared.reason.Reason.TheVariants.{Readonly, IdNeedsImport, ImportNeedsId}
use Rattle.reg_refusals.specs.declared.reason.Reason.TheVariants.{IdNamesAnotherSchema, VersionIsOccupied, ScopeIsNotEmpty}
use Rattle.reg_refusals.specs.declared.reason.Reason.TheVariants.{InvalidId, VersionNeedsImport, IdIsNotAboveMark}
use Rattle.reg_refusals.specs.declared.reason.StoreFault.{StoreFault}
use Rattle.reg_refusals.specs.declared.reason.StoreFault.TheVariants.{Memory, OpaqueRecord, TwoSchemas, NumbersUsedUp, Unsettled}
use Rattle.reg_refusals.specs.declared.reason.StoreFault.TheVariants.{Overtaken, Declined}

-- why an operation isn't permitted
abbrev pub reason_text : Reason → List ℕ
reason_text Readonly = codes "READONLY"
reason_text IdNeedsImport = codes "id needs IMPORT"
reason_text ImportNeedsId = codes "IMPORT needs id"
reason_text IdNamesAnotherSchema = codes "id names another schema"
reason_text VersionIsOccupied = codes "version is occupied"
reason_text ScopeIsNotEmpty = codes "scope is not empty"
reason_text InvalidId = codes "invalid id"
reason_text VersionNeedsImport = codes "version needs IMPORT"
reason_text IdIsNotAboveMark = codes "id is not above the mark"

-- what the registry lacked
abbrev pub lack_text : StoreFault → List ℕ
lack_text Memory = codes "memory"
lack_text OpaqueRecord = codes "opaque record"
lack_text TwoSchemas = codes "two schemas for one id"
lack_text NumbersUsedUp = codes "numbers used up"
lack_text Unsettled = codes "unsettled"
lack_text Overtaken = codes "overtaken"
lack_text Declined = codes "declined"

-- the code of what the registry lacked: 503 and two more digits where it is others who wrote, or the store that declined
abbrev pub store_code : StoreFault → ℕ
store_code Memory = 50001
store_code OpaqueRecord = 50001
store_code TwoSchemas = 50001
store_code NumbersUsedUp = 50001
store_code Unsettled = 50001
store_code Overtaken = 50301
store_code Declined = 50302
