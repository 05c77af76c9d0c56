-- What changes nothing of a pen's batches.
use Rattle.std.proofs.Common.{◌≡◌, inl, inr, ℕ, List, [], ◌∷◌, ◌++◌, sym, ap, subst, ◌∙◌, append-nil}
use Rattle.reg_records.specs.declared.record.Record.{Record}
use Rattle.reg_topic.specs.declared.published.Compaction.{Compaction}
use Rattle.reg_topic.specs.declared.published.Item.{Item}
use Rattle.reg_topic.specs.declared.published.Item.TheVariants as items
use Rattle.reg_topic.specs.declared.topic.Topic.{Topic}
use Rattle.reg_pen.specs.Pen.{CompactsOrNot, IsCompactRefusal, LeavesCompaction, PenState, settled}
use Rattle.reg_pen.specs.declared.compact_error.CompactError.{CompactError}
use Rattle.reg_pen.specs.declared.compact_error.CompactError.TheVariants as refused
use Rattle.reg_join.specs.Joined.{CompactionsStayJoined, IsJoined, batches_in, batches_of}
use Rattle.reg_join.specs.Joining.{AreTaken, KeepsTaken}
use Rattle.reg_join.specs.declared.join_keep.JoinKeep.{JoinKeep}
use Rattle.reg_join.proofs.Following.{batches_both}

-- the same batches, and the same keep
pub record IsSame {K : Type 0} (l m : PenState K) : Type 0 where
  pub lost : m.lost ≡ l.lost
  pub batches : batches_of m ≡ batches_of l
  pub keep : m.keep ≡ l.keep

pub none_pending : (is : List Item) → batches_in (is ++ []) ≡ batches_in is
none_pending is = ap batches_in (append-nil is)

-- a compaction more
compaction_more : (is : List Item) (c : Compaction) → batches_in (is ++ items.Compaction c ∷ []) ≡ batches_in is
compaction_more is c = batches_both is (items.Compaction c ∷ []) ∙ append-nil (batches_in is)

module _ {K : Type 0} where
  pub itself : (l m : PenState K) → m ≡ l → IsSame l m
  itself l m same = record {
    lost = ap (λ (s : PenState K). s.lost) same;
    batches = ap (λ (s : PenState K). batches_of s) same;
    keep = ap (λ (s : PenState K). s.keep) same;
  }

  pub when_settled : (l m : PenState K) → m ≡ settled l → IsSame l m
  when_settled l m same = record {
    lost = ap (λ (s : PenState K). s.lost) same;
    batches = ap (λ (s : PenState K). batches_of s) same ∙ none_pending (l.published ++ l.pending);
    keep = ap (λ (s : PenState K). s.keep) same;
  }

  with_compaction : (l m : PenState K) (c : Compaction)
      → m ≡ record (settled l) { published = (settled l).published ++ items.Compaction c ∷ [] } → IsSame l m
  with_compaction l m c same = record {
    lost = ap (λ (s : PenState K). s.lost) same;
    batches = ap (λ (s : PenState K). batches_of s) same
        ∙ (none_pending ((l.published ++ l.pending) ++ items.Compaction c ∷ []) ∙ compaction_more (l.published ++ l.pending) c);
    keep = ap (λ (s : PenState K). s.keep) same;
  }

  before_compaction : (l m : PenState K) (c : Compaction) → m ≡ record (settled l) { pending = items.Compaction c ∷ [] }
      → IsSame l m
  before_compaction l m c same = record {
    lost = ap (λ (s : PenState K). s.lost) same;
    batches = ap (λ (s : PenState K). batches_of s) same ∙ compaction_more (l.published ++ l.pending) c;
    keep = ap (λ (s : PenState K). s.keep) same;
  }

module _ {K : Type 0} (base : Topic) (floor : ℕ) (l m : PenState K) where
  left : LeavesCompaction base floor l m → IsSame l m
  left (inl same) = itself l m same
  left (inr (inl settles)) = when_settled l m settles.1
  left (inr (inr pends)) = before_compaction l m (record { floor = floor; dropped = pends.0 }) pends.3

  not_done : (error : CompactError) → IsCompactRefusal base floor l error m → IsSame l m
  not_done (refused.FloorBelow kept) h = itself l m h.2
  not_done (refused.FloorAhead next) h = itself l m h.3
  not_done refused.OutOfMemory h = left h.1.1
  not_done refused.Lost h = itself l m h.1.1

  pub compacted : CompactsOrNot base floor l m → IsSame l m
  compacted (inl done) = with_compaction l m (record { floor = floor; dropped = done.0 }) done.3
  compacted (inr h) = not_done h.0 h.1

module _ {C : Type 0} (told : C → List (List Record)) where
  -- a pen with the same batches whose keep took what it had taken
  pub still_joined : (l m : PenState (JoinKeep C)) → m.lost ≡ l.lost → batches_of m ≡ batches_of l → KeepsTaken told l.keep m.keep
      → IsJoined told l → IsJoined told m
  still_joined l m lost batches keeps joined = record {
    kept = lost ∙ joined.kept;
    taken = subst (λ (bs : List (List Record)). AreTaken told m.keep bs) (sym batches) (keeps (batches_of l) joined.taken);
  }

  pub same_joined : (l m : PenState (JoinKeep C)) → IsSame l m → IsJoined told l → IsJoined told m
  same_joined l m same joined =
      still_joined l m same.lost same.batches
      (λ taken h. subst (λ (k : JoinKeep C). AreTaken told k taken) (sym same.keep) h) joined

  pub compactions_stay_joined : CompactionsStayJoined told
  compactions_stay_joined base floor l m compacts joined = same_joined l m (compacted base floor l m compacts) joined
