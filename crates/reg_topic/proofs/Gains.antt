-- What lawful items published is what the log gained.
use Rattle.std.proofs.Common.{◌≡◌, ◌⊎◌, inl, inr, Bool, true, false, ◌||◌, List, [], ◌∷◌, ◌++◌, refl, sym, ap, ◌∙◌}
use Rattle.std.proofs.lemmas.Bool.{le-leb}
use Rattle.std.proofs.lemmas.List.Folds.{list_any-append}
use Rattle.std.specs.Cmp.{IsTotalOrder}
use Rattle.std.specs.FinSet.{contains, from_list, union, IsAntisymmetric, contains-from_list, contains-union, same_set}
use Rattle.std.specs.List.{list_any}
use Rattle.std.specs.Ordering.{eq_by_cmp}
use Rattle.reg_leader.specs.reg_records.declared.record.Record.{Record}
use Rattle.reg_leader.specs.reg_set.RecordOrder.{record_cmp}
use Rattle.reg_leader.specs.reg_set.Records.{Records}
use Rattle.reg_leader.specs.OneStep.{BatchesEndByTheLimit, BatchesGoOn}
use Rattle.reg_topic.specs.Laws.{LogIsWhatWasPublished}
use Rattle.reg_topic.specs.Topic.{MayCommit, MayFollow, after_batch, after_compaction, after_item}
use Rattle.reg_topic.specs.Topic.{follows, may_compact, published_by, records_of_item, registry_of}
use Rattle.reg_topic.specs.declared.published.Commit.{Commit}
use Rattle.reg_topic.specs.declared.published.Compaction.{Compaction}
use Rattle.reg_topic.specs.declared.published.Item.{Item}
use Rattle.reg_topic.specs.declared.published.Item.TheVariants as items
use Rattle.reg_topic.specs.declared.topic.Topic.{Topic}
use Rattle.reg_topic.proofs.Bools.{both}

or-false : (a : Bool) → a ≡ (a || false)
or-false true = refl
or-false false = refl

or-move : (a b c : Bool) → ((a || b) || c) ≡ (a || (b || c))
or-move true b c = refl
or-move false b c = refl

other_one : {A B : Type 0} → ¬ A → A ⊎ B → B
other_one none (inl a) = absurd (none a)
other_one none (inr b) = b

module _ (order : IsTotalOrder record_cmp) (apart : IsAntisymmetric record_cmp) where
  in_both : (log : Records) (rs : List Record) (q : Record)
      → contains (union log (from_list rs)) q ≡ (contains log q || list_any (eq_by_cmp record_cmp q) rs)
  in_both log rs q = contains-union order log (from_list rs) q ∙ ap (λ b. contains log q || b) (contains-from_list order rs q)

  with_none : (log : Records) → log ≡ union log (from_list [])
  with_none log = same_set order apart log (union log (from_list [])) (λ q. or-false (contains log q) ∙ sym (in_both log [] q))

  joined : (log : Records) (rs qs : List Record) → union (union log (from_list rs)) (from_list qs) ≡ union log (from_list (rs ++ qs))
  joined log rs qs = same_set order apart (union (union log (from_list rs)) (from_list qs)) (union log (from_list (rs ++ qs))) (λ q.
      in_both (union log (from_list rs)) qs q ∙ ap (λ b. b || list_any (eq_by_cmp record_cmp q) qs) (in_both log rs q)
      ∙ or-move (contains log q) (list_any (eq_by_cmp record_cmp q) rs) (list_any (eq_by_cmp record_cmp q) qs)
      ∙ ap (λ b. contains log q || b) (sym (list_any-append (eq_by_cmp record_cmp q) rs qs)) ∙ sym (in_both log (rs ++ qs) q))

  module _ (go : BatchesGoOn) (ends : BatchesEndByTheLimit) where
    pub follows-commit : (t : Topic) (commit : Commit) → MayCommit t commit → follows t.next commit.batch ≡ true
    follows-commit t commit m =
        both (go (registry_of t) t.next commit.command m.reply commit.batch m.step)
        (le-leb _ _ (other_one m.writes (ends (registry_of t) t.next commit.command m.reply commit.batch m.step)))

    log-batch : (b : Bool) (t : Topic) (batch : List Record) → b ≡ true → (after_batch b t batch).log ≡ union t.log (from_list batch)
    log-batch true t batch e = refl
    log-batch false t batch e = cc

    log-compaction : (b : Bool) (t : Topic) (c : Compaction) → (after_compaction b t c).log ≡ union t.log (from_list [])
    log-compaction true t c = with_none t.log
    log-compaction false t c = with_none t.log

    log-item : (t : Topic) (i : Item) → MayFollow t i → (after_item t i).log ≡ union t.log (from_list (records_of_item i))
    log-item t (items.Commit commit) m = log-batch (follows t.next commit.batch) t commit.batch (follows-commit t commit m)
    log-item t (items.Compaction c) m = log-compaction (may_compact t c) t c

    pub log_is_published : LogIsWhatWasPublished
    log_is_published t [] l = with_none t.log
    log_is_published t (i ∷ is) l =
        log_is_published (after_item t i) is l.1
        ∙ ap (λ s. union s (from_list (published_by is))) (log-item t i l.0)
        ∙ joined t.log (records_of_item i) (published_by is)
