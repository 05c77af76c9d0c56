-- The floor and the next offset with what is pending.
use Rattle.std.proofs.Common.{◌≡◌, ℕ, suc, ◌+◌, ◌≤◌, Bool, true, false, ◌&&◌, List, [], ◌∷◌, ◌++◌, length, refl, sym, ap, subst}
use Rattle.std.proofs.lemmas.Bool.{false≢true, leb-true}
use Rattle.reg_leader.specs.OneStep.{goes_on}
use Rattle.reg_records.specs.declared.limits.TheConstants.{OFFSET_LIMIT}
use Rattle.reg_records.specs.declared.record.Record.{Record}
use Rattle.reg_topic.specs.Laws.{CommitsFollow, ItemsAreFoldedInTurn}
use Rattle.reg_topic.specs.Topic.{MayFollow, after_batch, after_compaction, after_item, after_items, follows, may_compact}
use Rattle.reg_topic.specs.declared.published.Compaction.{Compaction}
use Rattle.reg_topic.specs.declared.published.Item.{Item}
use Rattle.reg_topic.specs.declared.published.Item.TheVariants as items
use Rattle.reg_topic.specs.declared.topic.Topic.{Topic}
use Rattle.reg_pen.specs.Pending.{AreOf, EndsByLimit, after}

second : (a b : Bool) → (a && b) ≡ true → b ≡ true
second true b h = h
second false b h = absurd (false≢true h)

of_batch : (b : Bool) (t : Topic) (batch : List Record) (floor next : ℕ) → b ≡ true
    → AreOf t floor next → AreOf (after_batch b t batch) floor (next + length batch)
of_batch true t batch floor next e are = (are.0, ap (λ n. n + length batch) are.1)
of_batch false t batch floor next e are = absurd (false≢true e)

of_compaction : (b : Bool) (t : Topic) (c : Compaction) (floor next : ℕ)
    → b ≡ true → AreOf t floor next → AreOf (after_compaction b t c) c.floor next
of_compaction true t c floor next e are = (refl, are.1)
of_compaction false t c floor next e are = absurd (false≢true e)

module _ (follow : CommitsFollow) where
  pub ends : (t : Topic) (i : Item) (floor next : ℕ) → MayFollow t i → AreOf t floor next → EndsByLimit i next
  ends t (items.Commit commit) floor next may are =
      subst (λ n. n + length commit.batch ≤ suc OFFSET_LIMIT) (sym are.1)
      (leb-true (t.next + length commit.batch) (suc OFFSET_LIMIT) (second (goes_on t.next commit.batch) _ (follow t commit may)))
  ends t (items.Compaction c) floor next may are = tt

  are_after : (t : Topic) (i : Item) (floor next : ℕ) → MayFollow t i → AreOf t floor next
      → AreOf (after_item t i) (after i floor next).0 (after i floor next).1
  are_after t (items.Commit commit) floor next may are =
      of_batch (follows t.next commit.batch) t commit.batch floor next (follow t commit may) are
  are_after t (items.Compaction c) floor next may are = of_compaction (may_compact t c) t c floor next may are

  -- an item more, on a list
  pub are_after_one : ItemsAreFoldedInTurn → (base : Topic) (is : List Item) (i : Item) (floor next : ℕ)
      → MayFollow (after_items base is) i → AreOf (after_items base is) floor next
      → AreOf (after_items base (is ++ i ∷ [])) (after i floor next).0 (after i floor next).1
  are_after_one turn base is i floor next may are =
      subst (λ (t : Topic). AreOf t (after i floor next).0 (after i floor next).1)
      (sym (turn base is i)) (are_after (after_items base is) i floor next may are)
