-- What a fold writes and publishes, and why it ends, by its log and by how its requests were served.
use Rattle.std.proofs.Common.{◌≡◌, ℕ, List, [], Option, None, Some, IfSome, subst}
use Rattle.std.specs.Prelude.{Ok, count_by}
use Rattle.std.specs.Io.KnownBytes.{Appends}
use Rattle.reg_http.specs.Serve.{IsOutput, IsServeRefusal}
use Rattle.reg_http.specs.declared.serving.ServeError.{ServeError}
use Rattle.reg_records.specs.Device.{KeepsEnd, KeepsReads, bytes_in, faults_of}
use Rattle.reg_records.specs.Log.{LogText, is_foreign, log_of}
use Rattle.reg_records.specs.declared.device.Device.{Device}
use Rattle.reg_set.specs.Join.{LastRecordsOfUnion}
use Rattle.reg_topic.specs.Laws.{CommitsFollow, ItemsAreFoldedInTurn, LawfulListsGoOn}
use Rattle.reg_topic.specs.Promises.{LawfulListsKeepIds, LawfulListsMeetLevels}
use Rattle.reg_topic.specs.declared.topic.Topic.{Topic}
use Rattle.reg_program.specs.Desk.{IsDeskAt, desk_asks, desk_commands}
use Rattle.reg_program.specs.Fold.{EndsServing, Folds, ended_by}
use Rattle.reg_program.specs.Opening.{IsAdoptedIfOpen, IsOpened}
use Rattle.reg_program.specs.Published.{topic_of}
use Rattle.reg_program.specs.declared.desk.FoldDesk.{FoldDesk}
use Rattle.reg_program.specs.declared.folding.FoldError.{FoldError}
use Rattle.reg_program.proofs.Desks.{outputs, refusals}
use Rattle.reg_program.proofs.Openings.{promised}

module _ (of_union : LastRecordsOfUnion) (turn : ItemsAreFoldedInTurn) (go : LawfulListsGoOn) (follow : CommitsFollow)
    (keep : LawfulListsKeepIds) (meet : LawfulListsMeetLevels) where
  served_after : (t : List ℕ) (log : LogText) (before written : Option (List ℕ)) (foreign requests : ℕ) (desk after : FoldDesk)
      → log_of t ≡ Ok log → foreign ≡ count_by is_foreign log.reads → IsDeskAt (topic_of log) [] desk → IsAdoptedIfOpen (topic_of log)
      → ((out : List ℕ) × IsOutput desk_asks desk_commands desk log.rest requests out after × Appends before written out)
      → (out : List ℕ) × Folds t (record { foreign = foreign; requests = requests }) out × Appends before written out
  served_after t log before written foreign requests desk after reads counts at adopted (out, done, appends) =
      let (published, there, answered) = outputs of_union turn go follow (topic_of log) desk after log.rest requests out at done in (
        out,
        record {
          log = log;
          is_read = reads;
          foreign = counts;
          published = published;
          output = answered;
          promised = promised keep meet (topic_of log) published adopted there.lawful;
        },
        appends,
      )

  pub served_written : (input left before written : Option (List ℕ)) (foreign requests : ℕ) (desk after : FoldDesk)
      → IsOpened input left foreign desk
      → IfSome left (λ text. (out : List ℕ) × IsOutput desk_asks desk_commands desk text requests out after × Appends before written out)
      → IfSome input (λ t. (out : List ℕ) × Folds t (record { foreign = foreign; requests = requests }) out × Appends before written out)
  served_written None left before written foreign requests desk after opened served = tt
  served_written (Some t) left before written foreign requests desk after (base, at, adopted, (log, reads, is, counts, rest)) served =
      served_after t log before written foreign requests desk after reads counts
      (subst (λ b. IsDeskAt b [] desk) is at) (subst IsAdoptedIfOpen is adopted)
      (subst (λ l.
      IfSome l (λ text.
      (out : List ℕ) × IsOutput desk_asks desk_commands desk text requests out after × Appends before written out)) rest served)

  -- the log was read, so that the reader stands after it
  read_log : (input left : Option (List ℕ)) (foreign : ℕ) (base : Topic)
      → IfSome input (λ t. (log : LogText) × (log_of t ≡ Ok log) × (base ≡ topic_of log)
      × (foreign ≡ count_by is_foreign log.reads) × (left ≡ Some log.rest))
      → IfSome input (λ t. (log : LogText) × (log_of t ≡ Ok log) × (base ≡ topic_of log) × (left ≡ Some log.rest))
  read_log None left foreign base opened = tt
  read_log (Some t) left foreign base (log, reads, is, counts, rest) = (log, reads, is, rest)

  pub served_refused : {R W : Type 0} (remaining : R → Option (List ℕ))
      (contents : W → Option (List ℕ)) (reader mid reader' : Device R) (writer writer' : Device W)
      (foreign : ℕ) (desk after : FoldDesk) (e : ServeError) (error : FoldError)
      → error ≡ ended_by e → IsOpened (bytes_in remaining reader) (bytes_in remaining mid) foreign desk
      → KeepsEnd remaining reader mid → faults_of mid ≡ faults_of reader → KeepsReads reader mid
      → IsServeRefusal desk_asks desk_commands mid reader' writer writer' (bytes_in remaining mid) (bytes_in remaining reader')
      (bytes_in contents writer) (bytes_in contents writer') desk after e
      → EndsServing remaining contents reader reader' writer writer' error
  served_refused remaining contents reader mid reader' writer writer' foreign desk after e error is
      (base, at, adopted, opened) end same least refused =
      let (desk', published, there, ends) =
      refusals of_union turn go follow base mid reader' writer writer' (bytes_in remaining mid) (bytes_in remaining reader')
      (bytes_in contents writer) (bytes_in contents writer') desk after e at refused in record {
        cause = e;
        is = is;
        mid = mid;
        base = base;
        log = (read_log (bytes_in remaining reader) (bytes_in remaining mid) foreign base opened, end, same, least);
        published = published;
        served = ends;
        promised = promised keep meet base published adopted there.lawful;
      }
