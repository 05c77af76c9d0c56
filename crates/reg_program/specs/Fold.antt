-- What the fold of a log and the requests after it does.
use Rattle.std.specs.Prelude.{◌≡◌, ◌⊎◌, ⊤, ℕ, List, [], Option, Some, IfSome, Result, Ok, count_by}
use Rattle.std.specs.Io.KnownBytes.{Keeps}
use Rattle.std.specs.declared.io.Error.{Error}
use Rattle.reg_http.specs.Ends.{EndsAfter}
use Rattle.reg_http.specs.Serve.{IsOutput, IsServeRefusal}
use Rattle.reg_http.specs.declared.serving.ServeError.{ServeError}
use Rattle.reg_http.specs.declared.serving.ServeError.TheVariants as serving
use Rattle.reg_records.specs.Device.{KeepsEnd, KeepsReads, bytes_in, faults_of}
use Rattle.reg_records.specs.Log.{IsLogRefusal, LogText, log_of, is_foreign}
use Rattle.reg_records.specs.declared.device.Device.{Device}
use Rattle.reg_records.specs.declared.log.LogError.{LogError}
use Rattle.reg_records.specs.declared.log.LogError.TheVariants as logs
use Rattle.reg_responses.specs.Writing.{IsLostBy}
use Rattle.reg_topic.specs.declared.published.Item.{Item}
use Rattle.reg_topic.specs.declared.topic.Topic.{Topic}
use Rattle.reg_program.specs.Published.{KeepsPromises, asks, commands, topic_of}
use Rattle.reg_program.specs.declared.folding.Folded.{Folded}
use Rattle.reg_program.specs.declared.folding.FoldError.{FoldError}
use Rattle.reg_program.specs.declared.folding.FoldError.TheVariants as errors

-- what is written for an input: the log is at its front, its foreign lines are counted, and the requests after its empty line
-- are answered, one after the other, from the log and all that commands before published, which keeps its promises
pub record Folds (input : List ℕ) (folded : Folded) (out : List ℕ) : Type 0 where
  pub log : LogText
  pub is_read : log_of input ≡ Ok log
  pub foreign : folded.foreign ≡ count_by is_foreign log.reads
  pub published : List Item
  pub output : IsOutput (asks (topic_of log)) (commands (topic_of log)) [] log.rest folded.requests out published
  pub promised : KeepsPromises (topic_of log) published

-- how a fold ends where its log isn't read
abbrev pub fold_error_of : LogError → FoldError
fold_error_of (logs.Fault line fault) = errors.Log line fault
fold_error_of (logs.ReadFault line) = errors.ReadFault
fold_error_of logs.OutOfMemory = errors.OutOfMemory

-- why no request was read: the log has a fault, the reader is lost in one of its lines, or there is no room
abbrev pub IsLogRefused : {R : Type 0} → (R → Option (List ℕ)) → Device R → Device R → FoldError → Type 0
IsLogRefused remaining reader reader' error =
    (e : LogError) × (error ≡ fold_error_of e) × IsLogRefusal reader reader' (bytes_in remaining reader) (bytes_in remaining reader') e

-- a reader that has read its log without a fault, which that topic is of, and stands where the requests begin
abbrev pub HasReadLog : {R : Type 0} → (R → Option (List ℕ)) → Device R → Device R → Topic → Type 0
HasReadLog remaining reader mid base =
    IfSome (bytes_in remaining reader)
    (λ input. (log : LogText) × (log_of input ≡ Ok log) × (base ≡ topic_of log) × (bytes_in remaining mid ≡ Some log.rest))
    × KeepsEnd remaining reader mid × (faults_of mid ≡ faults_of reader) × KeepsReads reader mid

-- how a fold ends where serving its requests does
abbrev pub ended_by : ServeError → FoldError
ended_by serving.ReadFault = errors.ReadFault
ended_by serving.WriteFault = errors.WriteFault

module _ {R W : Type 0} (remaining : R → Option (List ℕ)) (contents : W → Option (List ℕ)) where
  -- the log was read, and serving the requests after it ended so; what commands published by then keeps its promises
  pub record EndsServing (reader reader' : Device R) (writer writer' : Device W) (error : FoldError) : Type 0 where
    pub cause : ServeError
    pub is : error ≡ ended_by cause
    pub mid : Device R
    pub base : Topic
    pub log : HasReadLog remaining reader mid base
    pub published : List Item
    pub served : IsServeRefusal (asks base) (commands base) mid reader' writer writer' (bytes_in remaining mid) (bytes_in remaining reader')
        (bytes_in contents writer) (bytes_in contents writer') [] published cause
    pub promised : KeepsPromises base published

  -- why no more was done, what was written by then, and what the devices counted
  abbrev pub IsFoldRefusal : Device R → Device R → Device W → Device W → FoldError → Type 0
  IsFoldRefusal reader reader' writer writer' error =
      (IsLogRefused remaining reader reader' error × (faults_of writer' ≡ faults_of writer)
      × Keeps (bytes_in contents writer) (bytes_in contents writer'))
      ⊎ EndsServing reader reader' writer writer' error

module _ {W : Type 0} (writes : W → List ℕ → Result ℕ Error → W → Type 0) (flushes : W → Result ⊤ Error → W → Type 0) where
  -- Where a fold ends before its end: the writer was lost by its last call; or the reader was lost, and the writer is as it was, or
  -- as the flush of the last response left it; or the log was refused, and the writer is as it was.
  abbrev pub EndsFoldRefused : Device W → Device W → FoldError → Type 0
  EndsFoldRefused before after (errors.Log line fault) = after ≡ before
  EndsFoldRefused before after errors.ReadFault = (count : ℕ) × EndsAfter writes flushes count before after
  EndsFoldRefused before after errors.WriteFault = IsLostBy writes flushes after
  EndsFoldRefused before after errors.OutOfMemory = after ≡ before
