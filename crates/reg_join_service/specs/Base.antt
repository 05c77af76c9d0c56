-- The base that an adapter tells first, and why a process can't begin with one.
use Rattle.std.specs.Prelude.{◌≡◌, ◌≢◌, ℕ, List, [], true, false, Ok, Some, Option, IfSome}
use Rattle.std.specs.FinSet.{from_list}
use Rattle.reg_records.specs.Log.{IsLogOf, IsLogRefusal, LogText, log_of}
use Rattle.reg_records.specs.declared.device.Device.{Device}
use Rattle.reg_records.specs.declared.log.Log.{Log}
use Rattle.reg_records.specs.declared.log.LogError.TheVariants as logs
use Rattle.reg_set.specs.LastRecords.{last_records}
use Rattle.reg_set.specs.Records.{Records}
use Rattle.reg_fold.specs.Closed.{is_closed}
use Rattle.reg_fold.specs.IdMark.{needs_mark}
use Rattle.reg_topic.specs.Topic.{topic_from}
use Rattle.reg_shared.specs.Held.{held_of}
use Rattle.reg_shared.specs.declared.shared.Begun.{Begun}
use Rattle.reg_inspection.specs.Obstacles.{obstacles}
use Rattle.reg_join_service.specs.declared.base_error.JoinBaseError.{JoinBaseError}
use Rattle.reg_join_service.specs.declared.base_error.JoinBaseError.TheVariants as errors

-- the log at the front of what a reader had, which has the rest; nothing is said where that isn't known
abbrev pub HasRead : Option (List ℕ) → Option (List ℕ) → Log → Type 0
HasRead old new log =
    IfSome old (λ text. (found : LogText) × (log_of text ≡ Ok found) × IsLogOf found.floor found.reads log × (new ≡ Some found.rest))

abbrev pub lasts_of : Log → Records
lasts_of log = last_records (from_list log.records.items)

-- a process may begin with the log: nothing keeps it from being served, and no mark of ids is due behind it
pub record MayBegin (log : Log) : Type 0 where
  pub servable : obstacles (lasts_of log) log.next ≡ []
  pub settled : needs_mark (lasts_of log) ≡ false

-- a topic over the log begins with that, and with nothing beside the log: the log takes commands, and owes no mark of ids
pub record BeginsWith (log : Log) (begun : Begun) : Type 0 where
  pub held : begun.shared ≡ held_of (topic_from log.records.items log.next log.floor)
  pub nothing_due : begun.due.items ≡ []
  pub takes_commands : is_closed (lasts_of log) ≡ false

-- why a process can't begin with a log; memory may be refused at any time
abbrev pub IsRefusedLog : Log → JoinBaseError → Type 0
IsRefusedLog log (errors.Log error) = error ≡ logs.OutOfMemory
IsRefusedLog log (errors.Closed found) = (found.items ≡ obstacles (lasts_of log) log.next) × (found.items ≢ [])
IsRefusedLog log errors.MarkDue = (obstacles (lasts_of log) log.next ≡ []) × (needs_mark (lasts_of log) ≡ true)

-- no log was read, or a process can't begin with the one that was
abbrev pub IsNoBase : {R : Type 0} → Device R → Device R → Option (List ℕ) → Option (List ℕ) → JoinBaseError → Type 0
IsNoBase before after old new (errors.Log error) = IsLogRefusal before after old new error
IsNoBase before after old new (errors.Closed found) = (log : Log) × HasRead old new log × IsRefusedLog log (errors.Closed found)
IsNoBase before after old new errors.MarkDue = (log : Log) × HasRead old new log × IsRefusedLog log errors.MarkDue

-- the exit status of a program that ends with it
abbrev pub exit_status : JoinBaseError → ℕ
exit_status (errors.Log (logs.Fault line fault)) = 2
exit_status (errors.Log (logs.ReadFault line)) = 1
exit_status (errors.Log logs.OutOfMemory) = 1
exit_status (errors.Closed found) = 2
exit_status errors.MarkDue = 2
