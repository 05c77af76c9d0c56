-- Each refusal's code, the reason where a code has several, and the message that goes with them.
use Rattle.std.specs.Prelude.{ℕ, List, ◌++◌, Option, Some, None, nat_lt, ◌/◌, codes, if◌then◌else◌}
use Rattle.reg_refusals.specs.Reason.{reason_text, lack_text, store_code}
use Rattle.reg_refusals.specs.declared.reason.StoreFault.TheVariants.{Memory}
use Rattle.reg_refusals.specs.declared.refusal.Refusal.{Refusal}
use Rattle.reg_refusals.specs.declared.refusal.Refusal.TheVariants.{BadRequest, NotFound, MethodNotAllowed, LengthRequired}
use Rattle.reg_refusals.specs.declared.refusal.Refusal.TheVariants.{PayloadTooLarge, UnsupportedMediaType, HeadTooLarge}
use Rattle.reg_refusals.specs.declared.refusal.Refusal.TheVariants.{SubjectNotFound, VersionNotFound, SchemaNotFound}
use Rattle.reg_refusals.specs.declared.refusal.Refusal.TheVariants.{SubjectSoftDeleted, SubjectNotSoftDeleted, VersionSoftDeleted}
use Rattle.reg_refusals.specs.declared.refusal.Refusal.TheVariants.{VersionNotSoftDeleted, SubjectHasNoLevel, SubjectHasNoMode}
use Rattle.reg_refusals.specs.declared.refusal.Refusal.TheVariants.{Incompatible, InvalidSchema, InvalidVersion, InvalidLevel}
use Rattle.reg_refusals.specs.declared.refusal.Refusal.TheVariants.{InvalidMode, NotPermitted, FollowsLog, Store}

abbrev pub code_of : Refusal → ℕ
code_of BadRequest = 400
code_of NotFound = 404
code_of (MethodNotAllowed allow) = 405
code_of LengthRequired = 411
code_of PayloadTooLarge = 413
code_of UnsupportedMediaType = 415
code_of HeadTooLarge = 431
code_of SubjectNotFound = 40401
code_of VersionNotFound = 40402
code_of SchemaNotFound = 40403
code_of SubjectSoftDeleted = 40404
code_of SubjectNotSoftDeleted = 40405
code_of VersionSoftDeleted = 40406
code_of VersionNotSoftDeleted = 40407
code_of SubjectHasNoLevel = 40408
code_of SubjectHasNoMode = 40409
code_of (Incompatible message) = 409
code_of InvalidSchema = 42201
code_of InvalidVersion = 42202
code_of InvalidLevel = 42203
code_of InvalidMode = 42204
code_of (NotPermitted reason) = 42205
code_of FollowsLog = 50003
code_of (Store fault) = store_code fault

-- the first three digits of the code
abbrev pub status_of : Refusal → ℕ
status_of refusal = if nat_lt (code_of refusal) 1000 then code_of refusal else code_of refusal / 100

-- which of its code's reasons a refusal has; None where the code has but one
abbrev pub reason_of : Refusal → Option (List ℕ)
reason_of BadRequest = None
reason_of NotFound = None
reason_of (MethodNotAllowed allow) = None
reason_of LengthRequired = None
reason_of PayloadTooLarge = None
reason_of UnsupportedMediaType = None
reason_of HeadTooLarge = None
reason_of SubjectNotFound = None
reason_of VersionNotFound = None
reason_of SchemaNotFound = None
reason_of SubjectSoftDeleted = None
reason_of SubjectNotSoftDeleted = None
reason_of VersionSoftDeleted = None
reason_of VersionNotSoftDeleted = None
reason_of SubjectHasNoLevel = None
reason_of SubjectHasNoMode = None
reason_of (Incompatible message) = None
reason_of InvalidSchema = None
reason_of InvalidVersion = None
reason_of InvalidLevel = None
reason_of InvalidMode = None
reason_of (NotPermitted reason) = Some (reason_text reason)
reason_of FollowsLog = None
reason_of (Store fault) = Some (lack_text fault)

abbrev pub message_of : Refusal → List ℕ
message_of BadRequest = codes "Bad Request"
message_of NotFound = codes "Not Found"
message_of (MethodNotAllowed allow) = codes "Method Not Allowed"
message_of LengthRequired = codes "Length Required"
message_of PayloadTooLarge = codes "Payload Too Large"
message_of UnsupportedMediaType = codes "Unsupported Media Type"
message_of HeadTooLarge = codes "Request Header Fields Too Large"
message_of SubjectNotFound = codes "Subject not found"
message_of VersionNotFound = codes "Version not found"
message_of SchemaNotFound = codes "Schema not found"
message_of SubjectSoftDeleted = codes "Subject is soft-deleted"
message_of SubjectNotSoftDeleted = codes "Subject is not soft-deleted"
message_of VersionSoftDeleted = codes "Version is soft-deleted"
message_of VersionNotSoftDeleted = codes "Version is not soft-deleted"
message_of SubjectHasNoLevel = codes "Subject has no level"
message_of SubjectHasNoMode = codes "Subject has no mode"
message_of (Incompatible message) = message
message_of InvalidSchema = codes "Invalid Avro schema"
message_of InvalidVersion = codes "Invalid version"
message_of InvalidLevel = codes "Invalid compatibility level"
message_of InvalidMode = codes "Invalid mode"
message_of (NotPermitted reason) = codes "Operation not permitted: " ++ reason_text reason
message_of FollowsLog = codes "This node follows a log: commands go to its writer"
message_of (Store fault) = codes "Store error: " ++ lack_text fault

-- memory was refused
abbrev pub no_memory : Refusal
no_memory = Store Memory
