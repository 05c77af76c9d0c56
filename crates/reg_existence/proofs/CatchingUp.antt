-- A node can take all that is kept, and then took a compaction of the log.
use Rattle.std.proofs.Common.{◌≡◌, ℕ, zero, suc, List, [], ◌∷◌, ◌++◌, Bool, true, false, ◌&&◌, ◌||◌, ◌==◌}
use Rattle.std.proofs.Common.{Option, Some, None, is_some, slice_get, refl, sym, ◌∙◌, ap, subst, eq-eqb}
use Rattle.std.specs.Cmp.{IsTotalOrder, tied_itself}
use Rattle.std.specs.FinSet.{IsAntisymmetric, contains, contains-from_list, contains-items, contains-union, from_list, items}
use Rattle.std.specs.List.{list_all, list_any}
use Rattle.std.specs.Option.{option_map_or}
use Rattle.std.specs.Ordering.{eq_by_cmp, is_eq}
use Rattle.reg_leader.specs.reg_records.declared.record.Record.{Record}
use Rattle.reg_leader.specs.reg_set.RecordOrder.{record_cmp}
use Rattle.reg_leader.specs.reg_set.Records.{Records}
use Rattle.reg_floored.specs.Floored.{Floored}
use Rattle.reg_topic.specs.Topic.{whole_log}
use Rattle.reg_world.specs.Happens.{Happens, floors_agree, is_allowed}
use Rattle.reg_world.specs.Headline.{TakersOfAllCatchUp, Took}
use Rattle.reg_world.specs.Runs.{After, Runs}
use Rattle.reg_world.specs.State.{State, changed, has_node, no_records, rebasing, set_at, taking, topic_of, with_node}
use Rattle.reg_world.specs.declared.event.Event.{Event}
use Rattle.reg_world.specs.declared.event.Event.TheVariants as events
use Rattle.reg_world.specs.declared.event.Outcome.{Outcome}
use Rattle.reg_world.specs.declared.event.Outcome.TheVariants as outcomes
use Rattle.reg_world.specs.declared.node.WorldNode.{WorldNode}
use Rattle.reg_existence.specs.CatchingUp.{CatchesUpBy, NodesMayCatchUp, RebasedNodesMayCatchUp, take_all}
use Rattle.reg_existence.proofs.Events.{allowed}

-- one event more
runs_push : (s : State) (es : List Event) (os : List Outcome) (w v : State) (e : Event) (o : Outcome)
    → Runs s es os w → Happens w e o v → Runs s (es ++ e ∷ []) (os ++ o ∷ []) v
runs_push s [] [] w v e o there happens = (v, subst (λ x. Happens x e o v) there happens, refl)
runs_push s [] (p ∷ os) w v e o there happens = absurd there
runs_push s (d ∷ es) [] w v e o there happens = absurd there
runs_push s (d ∷ es) (p ∷ os) w v e o (mid, first, rest) happens = (mid, first, runs_push mid es os w v e o rest happens)

-- a node is changed where it stands
changed_at : (f : WorldNode → WorldNode) (i : ℕ) (ns : List WorldNode) (n : WorldNode) → slice_get ns i ≡ Some n → slice_get (changed i f ns) i ≡ Some (f n)
changed_at f i [] n e = cc
changed_at f zero (m ∷ ns) n e = let same : m ≡ n = cc in ap (λ x. Some (f x)) same
changed_at f (suc i) (m ∷ ns) n e = changed_at f i ns n e

some_node : (o : Option WorldNode) → is_some o ≡ true → (n : WorldNode) × (o ≡ Some n)
some_node None e = cc
some_node (Some n) e = (n, refl)

set_there : (s : State) (i : ℕ) (n : WorldNode) → slice_get s.nodes i ≡ Some n → set_at s i ≡ n.set
set_there s i n there = ap (λ o. option_map_or (λ (m : WorldNode). m.set) o no_records.set) there

two_more : (xs : List Event) (a b : Event) → (xs ++ a ∷ []) ++ b ∷ [] ≡ xs ++ a ∷ b ∷ []
two_more [] a b = refl
two_more (x ∷ xs) a b = ap (λ ys. x ∷ ys) (two_more xs a b)

one_more : (es : List Event) (w v : State) (e : Event) (o : Outcome) → After es w → Happens w e o v → After (es ++ e ∷ []) v
one_more es w v e o after happens = record {
  base = after.base;
  adopted = after.adopted;
  count = after.count;
  outcomes = after.outcomes ++ o ∷ [];
  run = runs_push _ es after.outcomes w v e o after.run happens;
}

module _ (order : IsTotalOrder record_cmp) (apart : IsAntisymmetric record_cmp) where
  -- the items of a set are what it has
  in_items : (s : Records) (q : Record) → contains s q ≡ true → contains (from_list {R = record_cmp} (items s)) q ≡ true
  in_items s q there = contains-from_list order (items s) q ∙ sym (contains-items s q) ∙ there

  itself : (r : Record) → eq_by_cmp record_cmp r r ≡ true
  itself r = ap is_eq (tied_itself order r)

  or_true : (a b : Bool) → b ≡ true → (a || b) ≡ true
  or_true true b e = refl
  or_true false b e = e

  or_first : (a b : Bool) → a ≡ true → (a || b) ≡ true
  or_first true b e = refl
  or_first false b e = cc

  all_have : (test : Record → Bool) (rs : List Record)
      → ((r : Record) → list_any (eq_by_cmp record_cmp r) rs ≡ true → test r ≡ true) → list_all test rs ≡ true
  all_have test [] each = refl
  all_have test (r ∷ rs) each =
      ap (λ b. b && list_all test rs) (each r (or_first (eq_by_cmp record_cmp r r) (list_any (eq_by_cmp record_cmp r) rs) (itself r)))
      ∙ all_have test rs (λ q one. each q (or_true (eq_by_cmp record_cmp q r) (list_any (eq_by_cmp record_cmp q) rs) one))

  has_items : (s : Records) → list_all (contains s) (items s) ≡ true
  has_items s = all_have (contains s) (items s) (λ r one. contains-items s r ∙ one)

  and_true : (a b : Bool) → a ≡ true → b ≡ true → (a && b) ≡ true
  and_true true b e f = f
  and_true false b e f = e

  module _ (all_catch_up : TakersOfAllCatchUp) where
    takes_all : (es : List Event) (w : State) (after : After es w) (i : ℕ) → has_node w i ≡ true
        → (set_at w i).floor ≡ (topic_of w).kept.floor → (n : WorldNode) → slice_get w.nodes i ≡ Some n
        → CatchesUpBy es w i (take_all w i ∷ [])
    takes_all es w after i has at_floor n is =
        let kept : Records = (topic_of w).kept.records in
        let f = taking (from_list (items kept)) in
        let v : State = with_node w i f in
        let fine : is_allowed w (take_all w i) ≡ true =
        and_true (has_node w i) (list_all (contains kept) (items kept)) has (has_items kept) in
        let agree : floors_agree w (take_all w i) ≡ true = eq-eqb (set_at w i).floor (topic_of w).kept.floor at_floor in
        let then : After (es ++ take_all w i ∷ []) v =
        one_more es w v (take_all w i) outcomes.Done after (allowed w v (take_all w i) outcomes.Done fine agree (refl, refl)) in (
          v,
          then,
          refl,
          all_catch_up (es ++ take_all w i ∷ []) v then i (record {
            node = f n;
            is_there = changed_at f i w.nodes n is;
            at_floor = sym (ap (λ (x : Floored). x.floor) (set_there w i n is)) ∙ at_floor;
            all = λ r there.
                contains-union order n.took (from_list (items kept)) r
                ∙ or_true (contains n.took r) (contains (from_list (items kept)) r) (in_items kept r there);
          }),
        )

    pub nodes_may_catch_up : NodesMayCatchUp
    nodes_may_catch_up es w after i has at_floor =
        let (n, is) = some_node (slice_get w.nodes i) has in takes_all es w after i has at_floor n is

    pub rebased_nodes_may_catch_up : RebasedNodesMayCatchUp
    rebased_nodes_may_catch_up es w after i has =
        let (n, is) = some_node (slice_get w.nodes i) has in
        let f = rebasing (topic_of w).kept in
        let u : State = with_node w i f in
        let there = changed_at f i w.nodes n is in
        let then : After (es ++ events.Rebase i ∷ []) u =
        one_more es w u (events.Rebase i) outcomes.Done after (allowed w u (events.Rebase i) outcomes.Done has refl (refl, refl)) in
        let at_floor : (set_at u i).floor ≡ (topic_of u).kept.floor = ap (λ (x : Floored). x.floor) (set_there u i (f n) there) in
        let (v, last, same, took) = nodes_may_catch_up (es ++ events.Rebase i ∷ []) u then i (ap is_some there) at_floor in
        (v, subst (λ more. After more v) (two_more es (events.Rebase i) (take_all w i)) last, same, took)
