-- The headline's claims, from what every list of events keeps.
use Rattle.std.proofs.Common.{◌≡◌, ◌↔◌, ◌<◌, ◌⊎◌, inl, inr, ⊎_elim, ℕ, true, Some, None, IfSome, slice_get, refl, sym, ap, subst, arith}
use Rattle.std.specs.FinSet.{contains}
use Rattle.reg_alike.specs.reg_records.declared.key.Key.{Key}
use Rattle.reg_alike.specs.reg_records.declared.record.Record.{Record}
use Rattle.reg_alike.specs.reg_set.Compaction.{IsGone}
use Rattle.reg_alike.specs.reg_set.LastRecords.{last, last_records}
use Rattle.reg_alike.specs.reg_set.Records.{Records}
use Rattle.reg_alike.specs.reg_floored.Compaction.{IsCompactionOf}
use Rattle.reg_alike.specs.reg_floored.Floored.{Floored}
use Rattle.reg_topic.specs.Promises.{LawfulListsKeepIds, LawfulListsMeetLevels}
use Rattle.reg_topic.specs.Topic.{whole_log}
use Rattle.reg_world.specs.Core.{IsNodeOf, KeptIsCompaction, LogIsLawful, NoItemIsSkipped, NodesAreCompactions}
use Rattle.reg_world.specs.Happens.{Happens}
use Rattle.reg_world.specs.Headline.{AnswersAreOfTheSet, AnswersAsTheLog, CaughtUpNodesAnswerAsTheLog, Gives}
use Rattle.reg_world.specs.Headline.{HasKeptLasts, Ids, Levels, NodesCatchUp, SameAnswers, TakersOfAllCatchUp}
use Rattle.reg_world.specs.Headline.{Took, taken_by}
use Rattle.reg_alike.specs.reg_lookup.Answers.{HaveOneAnswer, IsAnswer, IsAnswerOver}
use Rattle.reg_world.specs.LowerLaws.{LowerLaws}
use Rattle.reg_world.specs.State.{State, set_at, topic_of}
use Rattle.reg_world.specs.declared.event.Event.TheVariants as events
use Rattle.reg_world.specs.declared.event.Outcome.TheVariants as outcomes
use Rattle.reg_alike.specs.reg_lookup.declared.answered.Answer.{Answer}
use Rattle.reg_alike.specs.reg_lookup.declared.query.Query.{Query}
use Rattle.reg_world.specs.declared.node.WorldNode.{WorldNode}
use Rattle.reg_world.proofs.Lasts.{IsPart, if_some, in_set, key_is, last_absent}
use Rattle.reg_world.proofs.Lasts.{last_of_part, last_some, lasts_in, no_record}
use Rattle.reg_world.proofs.Lasts.{of_some, own_last}
use Rattle.reg_world.proofs.Nodes.{node-compaction, node-part}
use Rattle.reg_world.proofs.Sound.{IsSound, at_index, kept}
use Rattle.reg_world.proofs.Stays.{node_at, sound-after}
use Rattle.reg_world.proofs.Steps.{a_node, allowed, set_there, went}

answered-same : (a b : Answer) → outcomes.Answered a ≡ outcomes.Answered b → b ≡ a
answered-same a b e = cc

-- a lookup answers by the records that the node has
answer_of : (w v : State) (i : ℕ) (query : Query) (answer : Answer)
    → Happens w (events.Lookup i query) (outcomes.Answered answer) v → IsAnswerOver (set_at w i).records query answer
answer_of w v i query answer happens =
    elim (went w v (events.Lookup i query) (outcomes.Answered answer) happens) as (λ _. IsAnswerOver (set_at w i).records query answer) [
      | inl did ↦ subst (IsAnswerOver (set_at w i).records query) (answered-same answer did.does.0 did.does.2) did.does.1
      | inr (inl differed) ↦ let e = differed.told in cc
      | inr (inr refused) ↦ let e = refused.told in cc
    ]

-- and where the node is there, whatever is an answer by them is one that it gives
gives_of : (w : State) (i : ℕ) (query : Query) (answer : Answer) (node : WorldNode)
    → slice_get w.nodes i ≡ Some node → IsAnswerOver (set_at w i).records query answer → Gives w i query answer
gives_of w i query answer node there is =
    allowed w w (events.Lookup i query) (outcomes.Answered answer) (a_node w i node there) refl (answer, is, refl, refl)

module _ (l : LowerLaws) where
  pub kept_is_compaction : KeptIsCompaction
  kept_is_compaction es w a = kept l w (sound-after l es w a)

  pub log_is_lawful : LogIsLawful
  log_is_lawful es w a = let h = sound-after l es w a in (h.adopted, h.lawful, h.pending)

  pub no_item_is_skipped : NoItemIsSkipped
  no_item_is_skipped es w a = l.whole w.base w.items (sound-after l es w a).lawful

  pub nodes_are_compactions : NodesAreCompactions
  nodes_are_compactions es w a i = at_index (IsNodeOf (topic_of w)) w.nodes i (sound-after l es w a).nodes

  -- a node whose set is a compaction of that one answers as it does
  answers_of : (w : State) (i : ℕ) (node : WorldNode) (whole : Floored) → slice_get w.nodes i ≡ Some node → IsCompactionOf node.set whole
      → (query : Query) (answer : Answer) → Gives w i query answer ↔ IsAnswerOver whole.records query answer
  answers_of w i node whole there compaction query answer =
      let its = set_there w i node there in
      let alike = l.alike node.set whole compaction query answer in (
        λ gives. alike.0 (subst (λ (s : Floored). IsAnswerOver s.records query answer) its (answer_of w w i query answer gives)),
        λ is. gives_of w i query answer node there (subst (λ (s : Floored). IsAnswerOver s.records query answer) (sym its) (alike.1 is)),
      )

  -- the set of a node is a compaction of whatever it took a compaction of
  set_of : (w : State) (i : ℕ) (whole : Floored) → IsSound w → (took : Took w i whole) → IsCompactionOf took.node.set whole
  set_of w i whole h took =
      l.across took.node.set (taken_by took.node) whole
      (node-compaction l (topic_of w) took.node (node_at l w i took.node took.is_there h)) took.compaction

  pub answers_are_of_the_set : AnswersAreOfTheSet
  answers_are_of_the_set es w a i whole took = answers_of w i took.node whole took.is_there (set_of w i whole (sound-after l es w a) took)

  -- at the kept floor, a part of the log is a compaction of it where it has all kept last records, and else nothing of their keys
  compaction_of_log : (w : State) (part : Floored) → IsSound w → part.floor ≡ (topic_of w).kept.floor → IsPart part.records (topic_of w).log
      → ((key : Key) → IfSome (last (topic_of w).kept.records key) (λ r. contains part.records r ≡ true))
      → ((r : Record) → last (topic_of w).log r.key ≡ Some r → r.value ≡ None → r.offset < part.floor
      → (last part.records r.key ≡ None) ⊎ (contains part.records r ≡ true))
      → IsCompactionOf part (whole_log (topic_of w))
  compaction_of_log w part h at_floor inside lasts alone =
      let t = topic_of w in
      let c = kept l w h in
      let stands : (key : Key) (r : Record) → last t.log key ≡ Some r → (contains t.kept.records r ≡ true) ⊎ IsGone t.kept.floor t.kept.records r
      → (contains part.records r ≡ true) ⊎ IsGone part.floor part.records r =
      λ key r is. ⊎_elim
      (λ has.
      inl (
      of_some (last t.kept.records key) _ r (lasts key) (last_of_part l t.kept.records t.log c.is_below_floor.is_part key r is has)))
      (λ gone. let under = gone.is_below in let low : r.offset < part.floor = omega (arith, under, at_floor) in
      ⊎_elim (λ no. inr (record { deletes = gone.deletes; is_below = low; has_no_other = no }))
      (λ has. inl has) (alone r (own_last l t.log key r is) gone.deletes low))
      in
      record {
        floor_rises = omega arith;
        is_below_floor = record {
          is_part = inside;
          has_lasts = λ key. if_some (last t.log key) _ (λ r is. stands key r is (lasts_in t.kept (whole_log t) c key r is));
        };
      }

  pub nodes_catch_up : NodesCatchUp
  nodes_catch_up es w a i node there has =
      let h = sound-after l es w a in
      let n = node_at l w i node there h in
      let is = compaction_of_log w node.set h has.at_floor (node-part l (topic_of w) node n) has.lasts n.none_is_back in
      (is, answers_of w i node (whole_log (topic_of w)) there is)

  pub takers_catch_up : TakersOfAllCatchUp
  takers_catch_up es w a i took =
      let h = sound-after l es w a in
      let node = took.node in
      let n = node_at l w i node took.is_there h in
      let t = topic_of w in
      record {
        node = node;
        is_there = took.is_there;
        compaction = compaction_of_log w (taken_by node) h took.at_floor n.part
            (λ key. if_some (last t.kept.records key) _ (λ r is. took.all r (in_set l t.kept.records key r is)))
            (λ r is deletes low. ⊎_elim
            -- what was taken of a key has its last record in the set
            (λ no. inl (last_absent l node.took r.key (λ q inside same.
            let some = last_some l node.took r.key q inside same in
            no_record l node.set.records r.key no some.0 (of_some (last node.took r.key) _ some.0 (n.lasts.has_lasts r.key) some.1)
            (key_is l node.took r.key some.0 some.1))))
            (λ has. inr (n.lasts.is_part r has)) (n.none_is_back r is deletes low));
      }

  pub caught_up : CaughtUpNodesAnswerAsTheLog
  caught_up es w a i took = answers_are_of_the_set es w a i (whole_log (topic_of w)) took

  -- with the law that a query has one answer
  pub same_answers : HaveOneAnswer → SameAnswers
  same_answers one es fs w v a b i j whole took tooks query x y gives givess =
      one (last_records whole.records) query x y ((answers_are_of_the_set es w a i whole took query x).0 gives)
      ((answers_are_of_the_set fs v b j whole tooks query y).0 givess)

  pub ids : LawfulListsKeepIds → Ids
  ids keep es w a = let h = sound-after l es w a in keep w.base w.items h.adopted h.lawful

  pub levels : LawfulListsMeetLevels → Levels
  levels meet es w a = meet w.base w.items (sound-after l es w a).lawful
