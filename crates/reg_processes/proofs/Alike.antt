-- Processes that took as many batches of one chain say the same.
use Rattle.std.proofs.Common.{◌≡◌, ◌≤◌, true, ◌||◌, List, ◌++◌, sym, ap, subst, ◌∙◌, arith}
use Rattle.std.proofs.lemmas.List.Concat.{flat_map-append}
use Rattle.std.proofs.lemmas.List.Folds.{list_any-append}
use Rattle.std.specs.Cmp.{IsTotalOrder}
use Rattle.std.specs.FinSet.{contains, from_list, union, IsAntisymmetric, contains-from_list, contains-union, same_set}
use Rattle.std.specs.List.{flat_map}
use Rattle.std.specs.Ordering.{eq_by_cmp}
use Rattle.reg_alike.specs.AnswerAlike.{AlikeAnswersAlike}
use Rattle.reg_alike.specs.GiveAlike.{CompactionsGiveAlike}
use Rattle.reg_alike.specs.StepAlike.{StepsAlike}
use Rattle.reg_alike.specs.reg_fold.GiveAlike.{GiveAlike, GivingAlikeComposes, GivingAlikeIsSymmetric}
use Rattle.reg_alike.specs.reg_records.declared.record.Record.{Record}
use Rattle.reg_alike.specs.reg_set.LastRecords.{last_records}
use Rattle.reg_alike.specs.reg_set.RecordOrder.{record_cmp}
use Rattle.reg_alike.specs.reg_set.Records.{Records}
use Rattle.reg_alike.specs.reg_floored.Compaction.{IsCompactionOf}
use Rattle.reg_alike.specs.reg_floored.Laws.{LaterRecordsMayJoin}
use Rattle.reg_alike.specs.reg_leader.OneStep.{BatchesGoOn}
use Rattle.reg_alike.specs.reg_lookup.Answers.{HaveOneAnswer}
use Rattle.reg_topic.specs.Laws.{CommitsFollow, LogIsWhatWasPublished}
use Rattle.reg_topic.specs.Topic.{published_by}
use Rattle.reg_processes.specs.Laws.{AnswersAreOfTheWhole, LogsAreCompactions, RegistriesGiveTheWhole, SameLogsAnswerAlike, SameLogsGiveAlike, SameLogsStepAlike, StepsAreOfTheWhole}
use Rattle.reg_processes.specs.Process.{Process, batches_in, registry, taken_by, topic_of, whole_of}
use Rattle.reg_processes.proofs.Chains.{batches_hold, same_beginning}
use Rattle.reg_processes.proofs.Items.{published_from}
use Rattle.reg_processes.proofs.Offsets.{is_among}

-- all records of the batches, in their order
abbrev all_of : List (List Record) → List Record
all_of batches = flat_map (λ batch. batch) batches

module _ (order : IsTotalOrder record_cmp) (apart : IsAntisymmetric record_cmp) where
  of_two : (rs qs : List Record) → union (from_list {R = record_cmp} rs) (from_list qs) ≡ from_list (rs ++ qs)
  of_two rs qs = same_set order apart (union (from_list rs) (from_list qs)) (from_list (rs ++ qs)) (λ q.
      contains-union order (from_list rs) (from_list qs) q
      ∙ ap (λ b. b || contains (from_list {R = record_cmp} qs) q) (contains-from_list order rs q)
      ∙ ap (λ b. is_among q rs || b) (contains-from_list order qs q)
      ∙ sym (list_any-append (eq_by_cmp record_cmp q) rs qs)
      ∙ sym (contains-from_list order (rs ++ qs) q))

  -- what a process took is what its base stands for, with what it published
  whole_is : (p : Process) → union (whole_of p.early).records (from_list (published_by p.items)) ≡ (whole_of (taken_by p)).records
  whole_is p =
      of_two (all_of p.early) (published_by p.items)
      ∙ ap (λ rs. from_list {R = record_cmp} (all_of p.early ++ rs)) (sym (batches_hold p.items))
      ∙ ap (λ rs. from_list {R = record_cmp} rs) (sym (flat_map-append (λ (batch : List Record). batch) p.early (batches_in p.items)))

  pub logs_compact : BatchesGoOn → CommitsFollow → LaterRecordsMayJoin → LogIsWhatWasPublished → LogsAreCompactions
  logs_compact go follow join published chain p part =
      let more : Records = from_list (published_by p.items) in
      let behind : (r : Record) → contains more r ≡ true → p.base.kept.floor ≤ r.offset =
      λ r h.
      let from = published_from order apart go follow p.base p.items part.lawful r (sym (contains-from_list order (published_by p.items) r) ∙ h) in
      omega (arith, from) in
      let joined = join p.base.kept (whole_of p.early) more behind part.stands in
      let log : union p.base.kept.records more ≡ (topic_of p).log =
      ap (λ rs. union rs more) part.adopted.whole ∙ sym (published p.base p.items part.lawful) in
      let at_log : IsCompactionOf (record { records = (topic_of p).log; floor = p.base.kept.floor })
      (record { records = union (whole_of p.early).records more; floor = 0 }) =
      subst (λ rs. IsCompactionOf (record { records = rs; floor = p.base.kept.floor })
      (record { records = union (whole_of p.early).records more; floor = 0 })) log joined in
      subst (λ rs. IsCompactionOf (record { records = (topic_of p).log; floor = p.base.kept.floor }) (record { records = rs; floor = 0 }))
      (whole_is p) at_log

pub gives_whole : LogsAreCompactions → CompactionsGiveAlike → RegistriesGiveTheWhole
gives_whole compact alike chain p part =
    alike (record { records = (topic_of p).log; floor = p.base.kept.floor }) (whole_of (taken_by p)) (compact chain p part)

pub give_alike : RegistriesGiveTheWhole → GivingAlikeIsSymmetric → GivingAlikeComposes → SameLogsGiveAlike
give_alike give back across p q took =
    let whole = λ (batches : List (List Record)). last_records (whole_of batches).records in
    let same = same_beginning (taken_by p) (taken_by q) took.chain took.one.begins took.other.begins took.as_many in
    across (registry p) (whole (taken_by q)) (registry q)
    (subst (λ batches. GiveAlike (registry p) (last_records (whole_of batches).records)) same (give took.chain p took.one))
    (back (registry q) (whole (taken_by q)) (give took.chain q took.other))

pub answer_whole : RegistriesGiveTheWhole → AlikeAnswersAlike → AnswersAreOfTheWhole
answer_whole give alike chain p part query a = alike (registry p) (last_records (whole_of (taken_by p)).records) (give chain p part) query a

pub step_whole : RegistriesGiveTheWhole → StepsAlike → StepsAreOfTheWhole
step_whole give alike chain p part n c reply batch =
    alike (registry p) (last_records (whole_of (taken_by p)).records) (give chain p part) n c reply batch

pub answer_alike : SameLogsGiveAlike → AlikeAnswersAlike → HaveOneAnswer → SameLogsAnswerAlike
answer_alike give alike single p q took query one other is_one is_other =
    single (registry q) query one other ((alike (registry p) (registry q) (give p q took) query one).0 is_one) is_other

pub step_alike : SameLogsGiveAlike → StepsAlike → SameLogsStepAlike
step_alike give alike p q took n c reply batch = alike (registry p) (registry q) (give p q took) n c reply batch
