-- What the eager fold of a world's log comes to.
use Rattle.std.proofs.Common.{◌≡◌, ◌↔◌, List, Some, Contains, sym, subst, ◌∙◌}
use Rattle.std.specs.FinMap as finmap
use Rattle.reg_alike.specs.reg_floored.Laws.{EachIsItsOwnCompaction}
use Rattle.reg_alike.specs.reg_entries.EntryOrder.{Place, place_cmp, place_of}
use Rattle.reg_alike.specs.reg_entries.declared.entry.Entry.{Entry}
use Rattle.reg_alike.specs.reg_fold.Entries.{EntriesAreOfPlaces, entries}
use Rattle.reg_topic.specs.Topic.{registry_of, whole_log}
use Rattle.reg_world.specs.Eager.{IsFoldedEagerly, eager}
use Rattle.reg_world.specs.State.{State, topic_of}
use Rattle.reg_world.proofs.EagerMaps.{are_alone, is_found, same_entries}

module _ (w : State) (itself : EachIsItsOwnCompaction) (folded : IsFoldedEagerly w) where
  -- a map that has what the eager fold has is that of the log's entries
  pub right_values : (m : finmap.FinMap place_cmp Entry) → ((p : Place) → finmap.get m p ≡ eager w p)
      → finmap.values m ≡ entries (registry_of (topic_of w))
  right_values m is =
      same_entries m (registry_of (topic_of w)) (λ p. is p ∙ folded p (whole_log (topic_of w)) (itself (whole_log (topic_of w))))

  -- the log's entries are those that the eager fold has at their places
  pub eager_values : EntriesAreOfPlaces → (found : List Entry) → found ≡ entries (registry_of (topic_of w))
      → (e : Entry) → Contains found e ↔ (eager w (place_of e) ≡ Some e)
  eager_values stand found same e =
      let h = is_found (entries (registry_of (topic_of w))) (are_alone stand (topic_of w).log) e in
      let at = folded (place_of e) (whole_log (topic_of w)) (itself (whole_log (topic_of w))) in (
        λ there. at ∙ h.0 (subst (λ es. Contains es e) same there),
        λ is. subst (λ es. Contains es e) (sym same) (h.1 (sym at ∙ is)),
      )
