-- Why no process begins with what a reader has.
use Rattle.std.proofs.Common.{◌≡◌, ℕ, List, Option, subst, sym}
use Rattle.reg_records.specs.Device.{faults_of}
use Rattle.reg_records.specs.Log.{IsLogRefusal}
use Rattle.reg_records.specs.declared.device.Device.{Device}
use Rattle.reg_records.specs.declared.log.Log.{Log}
use Rattle.reg_records.specs.declared.log.LogError.{LogError}
use Rattle.reg_join_service.specs.Base.{HasRead, IsNoBase, IsRefusedLog}
use Rattle.reg_join_service.specs.declared.base_error.JoinBaseError.{JoinBaseError}
use Rattle.reg_join_service.specs.declared.base_error.JoinBaseError.TheVariants as errors

-- a log was read, and no process can begin with it
pub refused_by : {R : Type 0} (before after : Device R) (old new : Option (List ℕ)) (log : Log) (error : JoinBaseError)
    → faults_of after ≡ faults_of before → HasRead old new log → IsRefusedLog log error → IsNoBase before after old new error
refused_by before after old new log (errors.Log e) faults read refused =
    subst (λ (cause : LogError). IsLogRefusal before after old new cause) (sym refused) faults
refused_by before after old new log (errors.Closed found) faults read refused = (log, read, refused)
refused_by before after old new log errors.MarkDue faults read refused = (log, read, refused)
