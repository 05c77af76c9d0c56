-- Which batches no command writes, and where a keep stops.
use Rattle.std.proofs.Common.{◌≡◌, inl, inr, ℕ, ◌+◌, Bool, true, false, List, [], ◌∷◌, ◌++◌, length, refl, sym, ap, subst, ◌∙◌, append_assoc}
use Rattle.std.specs.FinSet.{from_list, union}
use Rattle.std.specs.List.{fold}
use Rattle.reg_records.specs.declared.record.Record.{Record}
use Rattle.reg_set.specs.LastRecords.{last_records}
use Rattle.reg_set.specs.Records.{Records}
use Rattle.reg_leader.specs.Step.{IsStep}
use Rattle.reg_leader.specs.declared.command.Command.{Command}
use Rattle.reg_topic.specs.Topic.{IsLawful, MayCommit, after_batch, after_compaction, after_items, follows, may_compact, registry_of}
use Rattle.reg_topic.specs.declared.published.Commit.{Commit}
use Rattle.reg_topic.specs.declared.published.Compaction.{Compaction}
use Rattle.reg_topic.specs.declared.published.Item.{Item}
use Rattle.reg_topic.specs.declared.published.Item.TheVariants as items
use Rattle.reg_topic.specs.declared.topic.Topic.{Topic}
use Rattle.reg_pen.specs.Pen.{PenState, settled}
use Rattle.reg_join.specs.Joined.{IsJoined, batches_in, batches_of}
use Rattle.reg_join.specs.Joining.{AreTakenAt}
use Rattle.reg_join.specs.Taking.{IsNobodys, LawfulLogsStopNobody, StopsAtNobodys, Tells}
use Rattle.reg_join.specs.declared.join_keep.JoinKeep.{JoinKeep}
use Rattle.reg_join.specs.declared.join_keep.Stand.{Stand}
use Rattle.reg_join.specs.declared.join_keep.Stand.TheVariants.{Level, Due, Stopped}
use Rattle.reg_join.specs.declared.taking.Next.{Next}
use Rattle.reg_join.specs.declared.taking.Next.TheVariants as nexts
use Rattle.reg_join.proofs.TakingIn.{lent_batches, settled_batches}

-- the same log, and the same next offset
record HasSameLog (t u : Topic) : Type 0 where
  log : t.log ≡ u.log
  next : t.next ≡ u.next

abbrev plus_batch : Topic → List Record → Topic
plus_batch t batch = after_batch (follows t.next batch) t batch

-- after batches, of which each joins if it goes on
abbrev after_batches : Topic → List (List Record) → Topic
after_batches t bs = fold plus_batch t bs

backward : (t u : Topic) → HasSameLog t u → HasSameLog u t
backward t u same = record { log = sym same.log; next = sym same.next }

across : (t u v : Topic) → HasSameLog t u → HasSameLog u v → HasSameLog t v
across t u v one other = record { log = one.log ∙ other.log; next = one.next ∙ other.next }

may_too : (t u : Topic) → HasSameLog t u → (commit : Commit) → MayCommit t commit → MayCommit u commit
may_too t u same commit may = record {
  reply = may.reply;
  step = subst (λ (n : ℕ). IsStep (registry_of u) n commit.command may.reply commit.batch) same.next
      (subst (λ (log : Records). IsStep (last_records log) t.next commit.command may.reply commit.batch) same.log may.step);
  writes = may.writes;
}

joined_if : (b : Bool) (t u : Topic) (batch : List Record) → HasSameLog t u → HasSameLog (after_batch b t batch) (after_batch b u batch)
joined_if true t u batch same = record {
  log = ap (λ (log : Records). union log (from_list batch)) same.log;
  next = ap (λ (n : ℕ). n + length batch) same.next;
}
joined_if false t u batch same = same

with_batch : (t u : Topic) (batch : List Record) → HasSameLog t u → HasSameLog (plus_batch t batch) (plus_batch u batch)
with_batch t u batch same =
    subst (λ (b : Bool). HasSameLog (plus_batch t batch) (after_batch b u batch)) (ap (λ (n : ℕ). follows n batch) same.next)
    (joined_if (follows t.next batch) t u batch same)

compacted_if : (b : Bool) (t u : Topic) (c : Compaction) → HasSameLog t u → HasSameLog (after_compaction b t c) u
compacted_if true t u c same = record { log = same.log; next = same.next }
compacted_if false t u c same = same

-- log and next offset are told by the batches alone
by_batches : (t u : Topic) (is : List Item) → HasSameLog t u → HasSameLog (after_items t is) (after_batches u (batches_in is))
by_batches t u [] same = same
by_batches t u (items.Commit commit ∷ is) same =
    by_batches (plus_batch t commit.batch) (plus_batch u commit.batch) is (with_batch t u commit.batch same)
by_batches t u (items.Compaction c ∷ is) same =
    by_batches (after_compaction (may_compact t c) t c) u is (compacted_if (may_compact t c) t u c same)

same_itself : (t : Topic) → HasSameLog t t
same_itself t = record { log = refl; next = refl }

same_after : (base : Topic) (is js : List Item) → batches_in is ≡ batches_in js → HasSameLog (after_items base is) (after_items base js)
same_after base is js same =
    across (after_items base is) (after_batches base (batches_in js)) (after_items base js)
    (subst (λ (bs : List (List Record)). HasSameLog (after_items base is) (after_batches base bs)) same (by_batches base base is (same_itself base)))
    (backward (after_items base js) (after_batches base (batches_in js)) (by_batches base base js (same_itself base)))

-- behind other items with the same batches
pub still_nobodys : (base : Topic) (is js : List Item) (batch : List Record) → batches_in is ≡ batches_in js → IsNobodys base is batch
    → IsNobodys base js batch
still_nobodys base is js batch same nobodys = λ c may.
    nobodys c (may_too (after_items base js) (after_items base is) (same_after base js is (sym same)) (record { command = c; batch = batch }) may)

-- Lawful logs.
somebodys : (t u : Topic) (log : List Item) (bs : List (List Record)) (due : List Record) (rest : List (List Record)) → HasSameLog t u
    → IsLawful t log → bs ++ due ∷ rest ≡ batches_in log
    → (c : Command) × MayCommit (after_batches u bs) (record { command = c; batch = due })
somebodys t u [] [] due rest same lawful e = absurd (cc e)
somebodys t u [] (b ∷ bs) due rest same lawful e = absurd (cc e)
somebodys t u (items.Commit commit ∷ log) [] due rest same lawful e =
    let is : commit.batch ≡ due = cc in (
      commit.command,
      subst (λ (b : List Record). MayCommit u (record { command = commit.command; batch = b })) is (may_too t u same commit lawful.0),
    )
somebodys t u (items.Commit commit ∷ log) (b ∷ bs) due rest same lawful e =
    let is : commit.batch ≡ b = cc in
    let others : bs ++ due ∷ rest ≡ batches_in log = cc in
    somebodys (plus_batch t commit.batch) (plus_batch u b) log bs due rest
    (subst (λ (d : List Record). HasSameLog (plus_batch t commit.batch) (plus_batch u d)) is (with_batch t u commit.batch same)) lawful.1 others
somebodys t u (items.Compaction c ∷ log) bs due rest same lawful e =
    somebodys (after_compaction (may_compact t c) t c) u log bs due rest (compacted_if (may_compact t c) t u c same) lawful.1 e

pub lawful_logs_stop_nobody : {C : Type 0} (told : C → List (List Record)) → LawfulLogsStopNobody told
lawful_logs_stop_nobody told base log l lawful begins stops = λ stopped.
    let s = stops stopped in
    let all : batches_of l ++ s.0 ∷ begins.0 ≡ batches_in log =
    sym (append_assoc (batches_of l) (s.0 ∷ []) begins.0)
    ∙ (sym (ap (λ (bs : List (List Record)). bs ++ begins.0) s.1) ∙ begins.1) in
    let found = somebodys base base log (batches_of l) s.0 begins.0 (same_itself base) lawful all in
    s.2 found.0 (may_too (after_batches base (batches_of l)) (after_items base (l.published ++ l.pending))
    (backward (after_items base (l.published ++ l.pending)) (after_batches base (batches_of l))
    (by_batches base base (l.published ++ l.pending) (same_itself base)))
    (record { command = found.0; batch = s.0 }) found.1)

module _ {C : Type 0} (told : C → List (List Record)) (base : Topic) where
  -- a keep that isn't stopped
  pub at_level : (l : PenState (JoinKeep C)) → l.keep.stand ≡ Level → StopsAtNobodys told base l
  at_level l level = λ stopped. absurd (cc (sym level ∙ stopped))

  pub at_due : (l : PenState (JoinKeep C)) (due : List Record) → l.keep.stand ≡ Due due → StopsAtNobodys told base l
  at_due l due here = λ stopped. absurd (cc (sym here ∙ stopped))

  -- it isn't stopped unless it was, and then nothing changed but what is no batch
  pub still_stops : (l m : PenState (JoinKeep C)) → (m.keep.stand ≡ Stopped → m.keep ≡ l.keep) → batches_of m ≡ batches_of l
      → StopsAtNobodys told base l → StopsAtNobodys told base m
  still_stops l m keeps same stops = λ stopped.
      let keep = keeps stopped in
      let s = stops (sym (ap (λ (k : JoinKeep C). k.stand) keep) ∙ stopped) in (
        s.0,
        ap (λ (k : JoinKeep C). told k.chain) keep ∙ (s.1 ∙ sym (ap (λ (bs : List (List Record)). bs ++ s.0 ∷ []) same)),
        still_nobodys base (l.published ++ l.pending) (m.published ++ m.pending) s.0 (sym same) s.2,
      )

  pub itself_stops : (l m : PenState (JoinKeep C)) → m ≡ l → StopsAtNobodys told base l → StopsAtNobodys told base m
  itself_stops l m same stops = subst (λ (s : PenState (JoinKeep C)). StopsAtNobodys told base s) (sym same) stops

  -- a batch that was due is nobody's
  pub stops_at : (l m : PenState (JoinKeep C)) (due : List Record) → l.keep.stand ≡ Due due → IsNobodys base (l.published ++ l.pending) due
      → IsJoined told l → m.keep.chain ≡ l.keep.chain → batches_of m ≡ batches_of l → StopsAtNobodys told base m
  stops_at l m due here nobodys joined chain same = λ stopped. (
    due,
    ap told chain
        ∙ (subst (λ (s : Stand). AreTakenAt told s (told l.keep.chain) (batches_of l)) here joined.taken
        ∙ sym (ap (λ (bs : List (List Record)). bs ++ due ∷ []) same)),
    still_nobodys base (l.published ++ l.pending) (m.published ++ m.pending) due (sym same) nobodys,
  )

  -- what is pending was published, and the keep learnt of what was told next
  pub learnt_stops : (l k m : PenState (JoinKeep C)) → k ≡ settled l → m ≡ record k { keep = m.keep }
      → (m.keep.stand ≡ Stopped → m.keep ≡ k.keep) → StopsAtNobodys told base l → StopsAtNobodys told base m
  learnt_stops l k m settles lent keeps stops =
      still_stops l m (λ stopped. keeps stopped ∙ ap (λ (s : PenState (JoinKeep C)). s.keep) settles)
      (lent_batches told k m lent ∙ settled_batches told l k settles) stops

  stopped_then : (l m : PenState (JoinKeep C)) → Tells base nexts.NoCommand l → IsJoined told l → StopsAtNobodys told base l
      → m.keep ≡ record l.keep { stand = Stopped } → batches_of m ≡ batches_of l → StopsAtNobodys told base m
  stopped_then l m (inl stopped) joined stops keep same =
      still_stops l m (λ again. keep ∙ ap (λ (s : Stand). record l.keep { stand = s }) (sym stopped)) same stops
  stopped_then l m (inr due) joined stops keep same =
      stops_at l m due.0 due.1 due.2 joined (ap (λ (k : JoinKeep C). k.chain) keep) same

  -- it is stopped where no command writes what was told next
  pub stops_told : (next : Next) (l m : PenState (JoinKeep C)) → next ≡ nexts.NoCommand → Tells base next l → IsJoined told l
      → StopsAtNobodys told base l → m.keep ≡ record l.keep { stand = Stopped } → batches_of m ≡ batches_of l → StopsAtNobodys told base m
  stops_told next l m none tells joined stops keep same =
      stopped_then l m (subst (λ (n : Next). Tells base n l) none tells) joined stops keep same
