-- Each event, and so each list of events, keeps a world sound.
use Rattle.std.proofs.Common.{◌≡◌, ◌≢◌, inl, inr, ℕ, true, false, ◌||◌, ◌==◌, List, [], ◌∷◌}
use Rattle.std.proofs.Common.{Some, None, slice_get, refl, sym, ap, subst, ◌∙◌, eqb-true}
use Rattle.std.proofs.lemmas.Bool.{false≢true}
use Rattle.std.specs.Cmp.{Equal-is}
use Rattle.std.specs.FinSet.{contains, from_list, contains-from_list}
use Rattle.std.specs.List.{list_all, list_any}
use Rattle.std.specs.Ordering.{eq_by_cmp}
use Rattle.reg_alike.specs.reg_records.declared.record.Record.{Record}
use Rattle.reg_alike.specs.reg_set.RecordOrder.{record_cmp}
use Rattle.reg_alike.specs.reg_set.Records.{Records}
use Rattle.reg_alike.specs.reg_floored.Floored.{Floored}
use Rattle.reg_alike.specs.reg_leader.Step.{IsStep}
use Rattle.reg_topic.specs.Topic.{registry_of}
use Rattle.reg_alike.specs.reg_leader.declared.command.Command.{Command}
use Rattle.reg_alike.specs.reg_leader.declared.reply.Reply.{Reply}
use Rattle.reg_topic.specs.declared.published.Item.TheVariants as items
use Rattle.reg_world.specs.Core.{IsNodeOf}
use Rattle.reg_world.specs.Happens.{Does, Happens, at_floor, floors_agree, is_allowed, with_batch}
use Rattle.reg_world.specs.LowerLaws.{LowerLaws}
use Rattle.reg_world.specs.Runs.{After, Runs}
use Rattle.reg_world.specs.State.{State, compacted, has_node, no_records, rebasing, set_at, settled, taking, topic_of, with_node}
use Rattle.reg_world.specs.declared.event.Event.{Event}
use Rattle.reg_world.specs.declared.event.Event.TheVariants as events
use Rattle.reg_world.specs.declared.event.Fate.{Fate}
use Rattle.reg_world.specs.declared.event.Fate.TheVariants.{Published, Unsettled, Lost}
use Rattle.reg_world.specs.declared.event.Outcome.{Outcome}
use Rattle.reg_world.specs.declared.node.WorldNode.{WorldNode}
use Rattle.reg_world.proofs.Bools.{both_true}
use Rattle.reg_world.proofs.Lasts.{of_some}
use Rattle.reg_world.proofs.Nodes.{node-compacted, node-empty, node-merging, node-rebasing, node-taking}
use Rattle.reg_world.proofs.Sound.{IsSound, at_index, kept, settle-none, sound-node, sound-publish, sound-settled, sound-start}
use Rattle.reg_world.proofs.Steps.{node-there, set_there, went}

cons-not-nil : {A : Type 0} (x : A) (xs : List A) → x ∷ xs ≢ []
cons-not-nil x xs e = cc

module _ (l : LowerLaws) where
  abbrev Stays : State → Type 0
  Stays t = IsSound t

  -- what becomes of a batch
  sound-batch : (s : State) (fate : Fate) (command : Command) (reply : Reply) (batch : List Record) → s.unsettled ≡ None → IsSound s
      → IsStep (registry_of (topic_of s)) (topic_of s).next command reply batch → IsSound (with_batch s fate command batch)
  sound-batch s Published command reply [] none h step = h
  sound-batch s Unsettled command reply [] none h step = h
  sound-batch s Lost command reply [] none h step = h
  sound-batch s Published command reply (r ∷ rs) none h step =
      sound-publish l s (items.Commit (record { command = command; batch = r ∷ rs })) none h
      (record { reply = reply; step = step; writes = cons-not-nil r rs })
  sound-batch s Unsettled command reply (r ∷ rs) none h step =
      record {
        adopted = h.adopted;
        lawful = h.lawful;
        pending = record { reply = reply; step = step; writes = cons-not-nil r rs };
        nodes = h.nodes;
      }
  sound-batch s Lost command reply (r ∷ rs) none h step = h

  -- records that are all kept
  all_in : (kept : Records) (ds : List Record) (r : Record) → list_all (contains kept) ds ≡ true
      → list_any (eq_by_cmp record_cmp r) ds ≡ true → contains kept r ≡ true
  all_in kept [] r all any = absurd (false≢true any)
  all_in kept (d ∷ ds) r all any =
      let parts = both_true _ _ all in
      elim (eq_by_cmp record_cmp r d) as (λ b.
      eq_by_cmp record_cmp r d ≡ b → (b || list_any (eq_by_cmp record_cmp r) ds) ≡ true → contains kept r ≡ true) [
        | true ↦ λ e _. ap (contains kept) (l.apart r d ((Equal-is (record_cmp r d)).0 e)) ∙ parts.0
        | false ↦ λ _ rest. all_in kept ds r parts.1 rest
      ] refl any

  pub node_at : (s : State) (i : ℕ) (n : WorldNode) → slice_get s.nodes i ≡ Some n → IsSound s → IsNodeOf (topic_of s) n
  node_at s i n there h = of_some (slice_get s.nodes i) (IsNodeOf (topic_of s)) n (at_index (IsNodeOf (topic_of s)) s.nodes i h.nodes) there

  sound-taking : (s : State) (node : ℕ) (records : List Record) → list_all (contains (topic_of s).kept.records) records ≡ true
      → ((set_at s node).floor == (topic_of s).kept.floor) ≡ true
      → IsSound s → IsSound (with_node s node (taking (from_list records)))
  sound-taking s node records all agree h =
      sound-node l s node (taking (from_list records)) (λ n there k.
      node-taking l (topic_of s) (kept l s h) (from_list records)
      (λ r e. all_in (topic_of s).kept.records records r all (sym (contains-from_list l.order records r) ∙ e)) n
      (sym (ap (λ (x : Floored). x.floor) (set_there s node n there)) ∙ eqb-true _ _ agree) k) h

  sound-merging : (s : State) (node other : ℕ) → has_node s other ≡ true → ((set_at s node).floor == (set_at s other).floor) ≡ true
      → IsSound s → IsSound (with_node s node (taking (set_at s other).records))
  sound-merging s node other has agree h =
      let (m, there) = node-there s other has in
      let its = set_there s other m there in
      sound-node l s node (taking (set_at s other).records) (λ n here k.
      subst (λ (x : Floored). IsNodeOf (topic_of s) (taking x.records n)) (sym its)
      (node-merging l (topic_of s) n m
      (sym (ap (λ (x : Floored). x.floor) (set_there s node n here)) ∙ eqb-true _ _ agree ∙ ap (λ (x : Floored). x.floor) its)
      (node_at s other m there h) k))
      h

  sound-does : (s t : State) (e : Event) (o : Outcome) → is_allowed s e ≡ true
      → floors_agree s e ≡ true → Does s e o t → IsSound s → IsSound t
  sound-does s t (events.Command node command fate) o fine agree d h =
      subst Stays (sym d.state)
      (sound-batch (settled s) fate command d.reply d.batch (settle-none s.unsettled s refl) (sound-settled l s h) d.step)
  sound-does s t (events.Compact dropped) o fine agree d h =
      subst Stays (sym d.1)
      (sound-publish l (settled s) (items.Compaction (at_floor (topic_of (settled s)).kept.floor dropped))
      (settle-none s.unsettled s refl) (sound-settled l s h) fine)
  sound-does s t (events.CompactTo floor dropped) o fine agree d h =
      subst Stays (sym d.1) (
      sound-publish l (settled s) (items.Compaction (at_floor floor dropped)) (settle-none s.unsettled s refl) (sound-settled l s h) fine)
  sound-does s t (events.Take node records) o fine agree d h =
      subst Stays (sym d.1) (sound-taking s node records (both_true _ _ fine).1 agree h)
  sound-does s t (events.CompactNode node) o fine agree d h =
      subst Stays (sym d.1) (sound-node l s node compacted (λ n there k. node-compacted l (topic_of s) (kept l s h) n k) h)
  sound-does s t (events.MergeFrom node other) o fine agree d h =
      subst Stays (sym d.1) (sound-merging s node other (both_true _ _ fine).1 agree h)
  sound-does s t (events.Rebase node) o fine agree d h =
      subst Stays (sym d.1)
      (sound-node l s node (rebasing (topic_of s).kept) (λ n there k. node-rebasing l (topic_of s) (kept l s h) n k) h)
  sound-does s t (events.Restart node) o fine agree d h =
      subst Stays (sym d.1) (sound-node l s node (λ _. no_records) (λ n there k. node-empty l (topic_of s)) h)
  sound-does s t (events.Lookup node query) o fine agree d h = subst Stays (sym d.3) h

  pub sound-happens : (s t : State) (e : Event) (o : Outcome) → Happens s e o t → IsSound s → IsSound t
  sound-happens s t e o happens h =
      elim (went s t e o happens) [
        | inl did ↦ sound-does s t e o did.fine did.agree did.does h
        | inr (inl differed) ↦ subst Stays (sym differed.same) h
        | inr (inr refused) ↦ subst Stays (sym refused.same) h
      ]

  pub sound-runs : (s t : State) (es : List Event) (os : List Outcome) → Runs s es os t → IsSound s → IsSound t
  sound-runs s t [] [] run h = subst Stays (sym run) h
  sound-runs s t [] (o ∷ os) run h = absurd run
  sound-runs s t (e ∷ es) [] run h = absurd run
  sound-runs s t (e ∷ es) (o ∷ os) run h = sound-runs run.0 t es os run.2 (sound-happens s run.0 e o run.1 h)

  -- after every list of events
  pub sound-after : (es : List Event) (w : State) → After es w → IsSound w
  sound-after es w a = sound-runs _ w es a.outcomes a.run (sound-start l a.base a.count a.adopted)
