-- What one act or one deed does to a world.
use Rattle.std.proofs.Common.{◌≡◌, ℕ, zero, suc, ◌<◌, ◌==◌, true, false, Bool, ◌&&◌, ◌||◌, List, [], ◌∷◌, ◌++◌, None, Some}
use Rattle.std.proofs.Common.{MatchBool, is_some, slice_get, length, fold, refl, sym, ap, subst, ◌∙◌, arith, eq-eqb}
use Rattle.std.proofs.lemmas.List.{append-nil}
use Rattle.std.specs.Cmp.{IsTotalOrder}
use Rattle.std.specs.FinSet.{contains, empty, from_list, insert, union, contains-from_list}
use Rattle.std.specs.FinSet.{contains-insert, contains-union, IsAntisymmetric, same_set}
use Rattle.std.specs.Option.{option_map_or}
use Rattle.std.specs.Ordering.{eq_by_cmp}
use Rattle.reg_records.specs.declared.record.Record.{Record}
use Rattle.reg_set.specs.LastRecords.{last_records}
use Rattle.reg_set.specs.RecordOrder.{record_cmp}
use Rattle.reg_set.specs.Records.{Records}
use Rattle.reg_lookup.specs.Answers.{IsAnswer}
use Rattle.reg_lookup.specs.declared.answered.Answer.{Answer}
use Rattle.reg_lookup.specs.declared.query.Query.{Query}
use Rattle.reg_topic.specs.declared.published.Item.{Item}
use Rattle.reg_shared.specs.Held.{Held, base_of, topic_at}
use Rattle.reg_floored.specs.Floors.{rebased}
use Rattle.reg_node.specs.Takes.{IsDraw, floor_with, with_draw}
use Rattle.reg_node.specs.declared.take.Draw.TheVariants as drawn
use Rattle.reg_node.specs.declared.take.Draw.{Draw}
use Rattle.reg_world.specs.Happens.{Does, Happens, floors_agree, is_allowed}
use Rattle.reg_world.specs.State.{State, changed, no_records, rebasing, taking}
use Rattle.reg_world.specs.declared.event.Event.{Event}
use Rattle.reg_world.specs.declared.event.Event.TheVariants as events
use Rattle.reg_world.specs.declared.event.Fate.TheVariants.{Published}
use Rattle.reg_world.specs.declared.event.Outcome.{Outcome}
use Rattle.reg_world.specs.declared.event.Outcome.TheVariants as outcomes
use Rattle.reg_world.specs.declared.node.WorldNode.{WorldNode}
use Rattle.reg_running.specs.Running.{Act, Carried, Dropped, Deed, Drew, IsAct, items_of, draws}
use Rattle.reg_running.specs.Woven.{ByNode, ByPen, event_of, outcome_of}

happens_allowed : (s t : State) (e : Event) (o : Outcome) → is_allowed s e ≡ true → floors_agree s e ≡ true → Does s e o t → Happens s e o t
unfolding Happens
happens_allowed s t e o fine level d =
    subst
    (λ b.
    MatchBool b (MatchBool (floors_agree s e) (Does s e o t) ((o ≡ outcomes.FloorsDiffer) × (t ≡ s)))
    ((o ≡ outcomes.NotAllowed) × (t ≡ s)))
    (sym fine)
    (subst (λ b. MatchBool b (Does s e o t) ((o ≡ outcomes.FloorsDiffer) × (t ≡ s))) (sym level) d)

abbrev pub node_with : Records → ℕ → Records → WorldNode
node_with set floor took = record { set = record { records = set; floor = floor }; took = took }

-- the node after it did that
abbrev pub with_deeds : WorldNode → List Deed → WorldNode
with_deeds n deeds =
    node_with (fold with_draw n.set.records (draws deeds)) (fold floor_with n.set.floor (draws deeds)) (fold with_draw n.took (draws deeds))

abbrev pub state_of : Held → List Item → List WorldNode → State
state_of first items nodes = record { base = base_of first; items = items; unsettled = None; nodes = nodes }

pub is_there : (nodes : List WorldNode) (i : ℕ) → i < length nodes → is_some (slice_get nodes i) ≡ true
is_there [] i h = absurd (omega arith)
is_there (n ∷ nodes) zero h = refl
is_there (n ∷ nodes) (suc i) h = is_there nodes i (omega arith)

and-true : {a b : Bool} → a ≡ true → b ≡ true → (a && b) ≡ true
and-true {b = b} e f = ap (λ a. a && b) e ∙ f

or_turned : (a b : Bool) → (a || (b || false)) ≡ (b || a)
or_turned true true = refl
or_turned true false = refl
or_turned false true = refl
or_turned false false = refl

module _ (first : Held) (from : List Item) (nodes : List WorldNode) where
  -- an act of the pen's
  pub act_happens : (a : Act) → IsAct (length nodes) (topic_at first from) a
      → Happens (state_of first from nodes) (event_of (ByPen a)) (outcome_of (ByPen a)) (state_of first (from ++ items_of a) nodes)
  act_happens (Carried node command reply []) (there, step) =
      happens_allowed (state_of first from nodes) _ (events.Command node command Published)
      (outcomes.Replied reply) (is_there nodes node there) refl (record {
        reply = reply;
        batch = [];
        step = step;
        outcome = refl;
        state = ap (λ is. state_of first is nodes) (append-nil from);
      })
  act_happens (Carried node command reply (r ∷ rs)) (there, step) =
      happens_allowed (state_of first from nodes) _ (events.Command node command Published)
      (outcomes.Replied reply) (is_there nodes node there) refl (record {
        reply = reply;
        batch = r ∷ rs;
        step = step;
        outcome = refl;
        state = refl;
      })
  act_happens (Dropped c) may =
      happens_allowed (state_of first from nodes) _ (events.CompactTo c.floor c.dropped) outcomes.Done may refl (refl, refl)

  -- an answer
  pub answer_happens : (i : ℕ) (n : WorldNode) (query : Query) (answer : Answer)
      → slice_get nodes i ≡ Some n → IsAnswer (last_records n.set.records) query answer
      → Happens (state_of first from nodes) (events.Lookup i query) (outcomes.Answered answer) (state_of first from nodes)
  answer_happens i n query answer there is =
      happens_allowed (state_of first from nodes) (state_of first from nodes)
      (events.Lookup i query) (outcomes.Answered answer) (ap is_some there) refl (
        answer,
        subst (λ o. IsAnswer (last_records (option_map_or (λ (node : WorldNode). node.set) o no_records.set).records) query answer)
            (sym there) is,
        refl,
        refl,
      )

  -- what a draw does to its node
  abbrev pub drawing : Draw → WorldNode → WorldNode
  drawing (drawn.Take t) = taking (from_list (t.kept ∷ []))
  drawing (drawn.Rebase r) = rebasing (topic_at first from).kept

  -- a draw
  pub draw_happens : (i : ℕ) (n : WorldNode) (d : Draw) → slice_get nodes i ≡ Some n → IsDraw first from n.set.records n.set.floor d
      → Happens (state_of first from nodes) (event_of (ByNode i (Drew d))) outcomes.Done (state_of first from (changed i (drawing d) nodes))
  draw_happens i n (drawn.Take t) there is =
      happens_allowed (state_of first from nodes) _ (events.Take i (t.kept ∷ [])) outcomes.Done
      (and-true (ap is_some there) (and-true is.2 refl))
      (ap (λ o. (option_map_or (λ (node : WorldNode). node.set) o no_records.set).floor == (topic_at first from).kept.floor) there
      ∙ eq-eqb n.set.floor (topic_at first from).kept.floor is.1)
      (refl, refl)
  draw_happens i n (drawn.Rebase r) there is =
      happens_allowed (state_of first from nodes) _ (events.Rebase i) outcomes.Done (ap is_some there) refl (refl, refl)

-- The nodes once one has changed.
pub changed_one : (f : WorldNode → WorldNode) (nodes : List WorldNode) (i : ℕ) (n : WorldNode)
    → slice_get nodes i ≡ Some n → slice_get (changed i f nodes) i ≡ Some (f n)
changed_one f [] i n e = let no : None ≡ Some n = e in cc
changed_one f (m ∷ nodes) zero n e = let same : m ≡ n = cc in ap (λ x. Some (f x)) same
changed_one f (m ∷ nodes) (suc i) n e = changed_one f nodes i n e

pub changed_other : (f : WorldNode → WorldNode) (nodes : List WorldNode) (i j : ℕ) → (i ≡ j → ⊥) → slice_get (changed i f nodes) j ≡ slice_get nodes j
changed_other f [] i j apart = refl
changed_other f (m ∷ nodes) zero zero apart = absurd (apart refl)
changed_other f (m ∷ nodes) zero (suc j) apart = refl
changed_other f (m ∷ nodes) (suc i) zero apart = refl
changed_other f (m ∷ nodes) (suc i) (suc j) apart = changed_other f nodes i j (λ e. apart (ap suc e))

pub changed_count : (f : WorldNode → WorldNode) (nodes : List WorldNode) (i : ℕ) → length (changed i f nodes) ≡ length nodes
changed_count f [] i = refl
changed_count f (m ∷ nodes) zero = refl
changed_count f (m ∷ nodes) (suc i) = ap suc (changed_count f nodes i)

module _ (order : IsTotalOrder record_cmp) (apart : IsAntisymmetric record_cmp) where
  one_more : (s : Records) (r : Record) → union s (from_list (r ∷ [])) ≡ insert s r
  one_more s r = same_set order apart (union s (from_list (r ∷ []))) (insert s r) (λ q.
      contains-union order s (from_list (r ∷ [])) q
      ∙ (ap (λ b. contains s q || b) (contains-from_list order (r ∷ []) q)
      ∙ (or_turned (contains s q) (eq_by_cmp record_cmp q r) ∙ sym (contains-insert order s r q))))

  -- the node with one draw more
  pub with_one : (first : Held) (from : List Item) (nodes : List WorldNode) (n : WorldNode) (d : Draw) → n.took ≡ n.set.records
      → IsDraw first from n.set.records n.set.floor d → drawing first from nodes d n ≡ with_deeds n (Drew d ∷ [])
  with_one first from nodes n (drawn.Take t) same is =
      λ i. node_with (one_more n.set.records t.kept i) n.set.floor (one_more n.took t.kept i)
  with_one first from nodes n (drawn.Rebase r) same is =
      let kept = (topic_at first from).kept in
      let took : rebased n.took kept ≡ with_draw n.took (drawn.Rebase r) =
      ap (λ s. rebased s kept) same ∙ (sym is.3 ∙ ap (λ s. with_draw s (drawn.Rebase r)) (sym same)) in
      let set : rebased n.set.records kept ≡ with_draw n.set.records (drawn.Rebase r) = sym is.3 in
      let floor : kept.floor ≡ r.floor = sym is.2 in
      λ i. node_with (set i) (floor i) (took i)
