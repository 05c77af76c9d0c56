-- There are processes that take part in a chain.
use Rattle.std.proofs.Common.{◌≡◌, ◌||◌, is_some, [], ◌∷◌, ◌++◌, refl, sym, ap, subst, ◌∙◌, arith}
use Rattle.std.proofs.lemmas.List.{append-nil}
use Rattle.std.specs.Cmp.{IsTotalOrder}
use Rattle.std.specs.FinSet.{contains, from_list, items, IsAntisymmetric, contains-from_list, contains-items, same_set}
use Rattle.reg_alike.specs.GiveAlike.{CompactionsGiveAlike}
use Rattle.reg_alike.specs.reg_entries.Sought as sought
use Rattle.reg_alike.specs.reg_fold.Closed.{is_closed}
use Rattle.reg_alike.specs.reg_fold.Entries.{entries}
use Rattle.reg_alike.specs.reg_fold.GiveAlike.{GiveAlike}
use Rattle.reg_alike.specs.reg_fold.Opaque.{opaque}
use Rattle.reg_alike.specs.reg_set.Compaction.{IsCompactionBelow}
use Rattle.reg_alike.specs.reg_set.LastRecords.{last_records}
use Rattle.reg_alike.specs.reg_set.RecordOrder.{record_cmp}
use Rattle.reg_alike.specs.reg_set.Records.{Records}
use Rattle.reg_alike.specs.reg_floored.Compaction.{IsCompactionOf}
use Rattle.reg_alike.specs.reg_floored.Laws.{CompactionsCompose, EachIsItsOwnCompaction}
use Rattle.reg_alike.specs.reg_leader.OneStep.{BatchesGoOn}
use Rattle.reg_alike.specs.reg_leader.StayOpen.{StepsStayOpen}
use Rattle.reg_topic.specs.Laws.{CommitsFollow, FloorsRise, FloorsStayBelow, KeptStaysCompaction}
use Rattle.reg_topic.specs.Topic.{IsAdopted, registry_of, whole_log}
use Rattle.reg_topic.specs.declared.topic.Topic.{Topic}
use Rattle.reg_processes.specs.Laws.{KeptSetsBegin, LawfulListsTakePart, LogsAreCompactions}
use Rattle.reg_processes.specs.Process.{batches_in, taken_by, topic_of, whole_of}
use Rattle.reg_processes.proofs.Items.{IsSteady, steady, steady_items}

-- an adopted base's kept set is a compaction of its log
base_is_kept : EachIsItsOwnCompaction → (base : Topic) → IsAdopted base → IsCompactionOf base.kept (whole_log base)
base_is_kept itself base adopted = record {
  floor_rises = omega arith;
  is_below_floor =
      subst (λ rs. IsCompactionBelow base.kept.floor base.kept.records rs) adopted.whole (itself base.kept).is_below_floor;
}

closed_alike : (rs ss : Records) → GiveAlike rs ss → is_closed rs ≡ is_closed ss
closed_alike rs ss alike =
    ap (λ o. is_some o || is_some (sought.two_schemas (entries rs))) alike.opaque_alike
    ∙ ap (λ es. is_some (opaque ss) || is_some (sought.two_schemas es)) alike.entries_alike

module _ (order : IsTotalOrder record_cmp) (apart : IsAntisymmetric record_cmp) (itself : EachIsItsOwnCompaction) where
  of_items : (s : Records) → s ≡ from_list (items s ++ [])
  of_items s = same_set order apart s (from_list (items s ++ [])) (λ q.
      contains-items s q ∙ sym (contains-from_list order (items s) q)
      ∙ ap (λ rs. contains (from_list {R = record_cmp} rs) q) (sym (append-nil (items s))))

  pub lists_take_part : LawfulListsTakePart
  lists_take_part base is adopted lawful = record {
    adopted = adopted;
    stands = subst (λ rs. IsCompactionOf base.kept (record { records = rs; floor = 0 })) (of_items base.log) (base_is_kept itself base adopted);
    lawful = lawful;
    begins = ([], append-nil (items base.log ∷ batches_in is));
  }

  pub kept_sets_begin : BatchesGoOn → CommitsFollow → StepsStayOpen → CompactionsCompose → CompactionsGiveAlike → FloorsStayBelow
      → FloorsRise → KeptStaysCompaction → LogsAreCompactions → KeptSetsBegin
  kept_sets_begin go follow stay across alike low rise kept compact chain p part =
      let t : Topic = topic_of p in
      let is_kept : IsCompactionOf t.kept (whole_log t) =
      kept p.base p.items part.adopted.floor_below (base_is_kept itself p.base part.adopted) in
      let s : IsSteady t = steady_items order apart go follow stay p.base p.items part.lawful (steady p.base part.adopted) in
      let at_floor : IsCompactionOf t.kept (record { records = t.log; floor = p.base.kept.floor }) =
      record { floor_rises = rise p.base p.items; is_below_floor = is_kept.is_below_floor } in
      record {
        adopted = record {
          not_closed = closed_alike (last_records t.kept.records) (registry_of t) (alike t.kept (whole_log t) is_kept) ∙ s.not_closed;
          ahead = λ r h. s.below r (is_kept.is_below_floor.is_part r h);
          floor_below = low p.base p.items part.adopted.floor_below;
          whole = refl;
        };
        stands = across t.kept (record { records = t.log; floor = p.base.kept.floor }) (whole_of (taken_by p)) at_floor (compact chain p part);
        lawful = tt;
        begins = (part.begins.0, ap (λ bs. bs ++ part.begins.0) (append-nil (taken_by p)) ∙ part.begins.1);
      }
