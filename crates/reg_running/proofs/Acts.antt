-- What a pen's calls do are acts.
use Rattle.std.proofs.Common.{◌≡◌, ◌⊎◌, inl, inr, ℕ, ◌<◌, true, List, [], ◌∷◌, ◌++◌, Option, refl, sym, ap, subst, ◌∙◌, append_assoc}
use Rattle.std.specs.Borrow.{Bor}
use Rattle.std.proofs.lemmas.List.{append-nil}
use Rattle.std.proofs.lemmas.List.Concat.{flat_map-append}
use Rattle.std.proofs.lemmas.List.Sums.{fold-append}
use Rattle.reg_records.specs.declared.record.Record.{Record}
use Rattle.reg_leader.specs.Step.{IsStep}
use Rattle.reg_leader.specs.declared.command.Command.{Command}
use Rattle.reg_leader.specs.declared.reply.Reply.{Reply}
use Rattle.reg_leader.specs.declared.reply.Reply.TheVariants as replies
use Rattle.reg_topic.specs.Topic.{MayFollow, after_item, after_items, may_compact, registry_of}
use Rattle.reg_topic.specs.declared.published.Compaction.{Compaction}
use Rattle.reg_topic.specs.declared.published.Item.{Item}
use Rattle.reg_topic.specs.declared.published.Item.TheVariants as items
use Rattle.reg_topic.specs.declared.topic.Topic.{Topic}
use Rattle.reg_pen.specs.Pen.{Acts, Compacts, CompactsOrNot, Follows, IsCompactRefusal, IsPen, IsStepAfter}
use Rattle.reg_pen.specs.Pen.{LeavesCompaction, Pends, PenState, StillPends, Submits}
use Rattle.reg_pen.specs.Pen.{item_of, settled}
use Rattle.reg_pen.specs.declared.compact_error.CompactError.{CompactError}
use Rattle.reg_pen.specs.declared.compact_error.CompactError.TheVariants as refused
use Rattle.reg_pen.specs.declared.keep.Kept.{Kept}
use Rattle.reg_pen.specs.declared.keep.Kept.TheVariants.{Taken, Declined, Lost, Unknown}
use Rattle.reg_running.specs.Calls.{ActsAddUp, ActsAreLawful, Added, CompactionsAreActs}
use Rattle.reg_running.specs.Calls.{IsNoOutcome, IsToldOf}
use Rattle.reg_running.specs.Calls.{LawfulListsAreOfActs, SubmitsAreActs}
use Rattle.reg_running.specs.Running.{Act, AreActs, Carried, Dropped, items_of, published}

-- acts, and more acts
acts_join : (count : ℕ) (t : Topic) (xs ys : List Act) → AreActs count t xs
    → AreActs count (after_items t (published xs)) ys → AreActs count t (xs ++ ys)
acts_join count t [] ys h g = g
acts_join count t (a ∷ xs) ys h g = (
  h.0,
  acts_join count (after_items t (items_of a)) xs ys h.1
      (subst (λ u. AreActs count u ys) (fold-append after_item t (items_of a) (published xs)) g),
)

pub added_none : (count : ℕ) (base : Topic) (before after : List Item) → after ≡ before → Added count base before after []
added_none count base before after e = record { are = tt; list = e ∙ sym (append-nil before) }

pub added_more : ActsAddUp
added_more count base before mid after xs ys h g = record {
  are = acts_join count (after_items base before) xs ys h.are
      (subst (λ t. AreActs count t ys) (ap (after_items base) h.list ∙ fold-append after_item base before (published xs)) g.are);
  list = g.list
      ∙ (
      ap (λ l. l ++ published ys) h.list
      ∙ (append_assoc before (published xs) (published ys) ∙ ap (λ l. before ++ l) (sym (flat_map-append items_of xs ys))));
}

-- an act of one command
carries : (count node : ℕ) (base : Topic) (before after : List Item) (command : Command) (reply : Reply) (batch : List Record)
    → node < count
    → IsStep (registry_of (after_items base before)) (after_items base before).next command reply batch
    → after ≡ before ++ item_of command batch
    → Added count base before after (Carried node command reply batch ∷ [])
carries count node base before after command reply batch there step e =
    record { are = ((there, step), tt); list = e ∙ ap (λ l. before ++ l) (sym (append-nil (item_of command batch))) }

drops : (count : ℕ) (base : Topic) (before after : List Item) (c : Compaction) → may_compact (after_items base before) c ≡ true
    → after ≡ before ++ items.Compaction c ∷ [] → Added count base before after (Dropped c ∷ [])
drops count base before after c may e = record { are = (may, tt); list = e }

-- an item that may follow is published by an act
commit_act : (count node : ℕ) (base : Topic) (before after : List Item) (command : Command) (reply : Reply) (batch : List Record)
    → node < count → (batch ≡ [] → ⊥)
    → IsStep (registry_of (after_items base before)) (after_items base before).next command reply batch
    → after ≡ before ++ items.Commit (record { command = command; batch = batch }) ∷ []
    → (acts : List Act) × Added count base before after acts
commit_act count node base before after command reply [] there writes step e = absurd (writes refl)
commit_act count node base before after command reply (r ∷ rs) there writes step e =
    (Carried node command reply (r ∷ rs) ∷ [], carries count node base before after command reply (r ∷ rs) there step e)

item_act : (count node : ℕ) (base : Topic) (before after : List Item) (i : Item) → node < count
    → MayFollow (after_items base before) i → after ≡ before ++ i ∷ [] → (acts : List Act) × Added count base before after acts
item_act count node base before after (items.Commit commit) there may e =
    commit_act count node base before after commit.command may.reply commit.batch there may.writes may.step e
item_act count node base before after (items.Compaction c) there may e = (Dropped c ∷ [], drops count base before after c may e)

-- what was pending is published by acts
pending_acts : (count node : ℕ) (base : Topic) (before : List Item) (pending : List Item) → node < count
    → Pends (after_items base before) pending → (acts : List Act) × Added count base before (before ++ pending) acts
pending_acts count node base before [] there pends = ([], added_none count base before (before ++ []) (append-nil before))
pending_acts count node base before (i ∷ []) there pends = item_act count node base before (before ++ i ∷ []) i there pends refl
pending_acts count node base before (i ∷ j ∷ is) there pends = absurd pends

still_none : {K : Type 0} (keeps : K → List Record → Kept → K → Type 0) (base : Topic) (after : List Item) (command : Command)
    (pending : List Item) (reply : Reply) → StillPends pending reply → IsNoOutcome keeps base after command reply
still_none keeps base after command [] reply h = absurd h
still_none keeps base after command (items.Commit commit ∷ []) reply h = inr (inl (h.0.offset, h.3))
still_none keeps base after command (items.Compaction c ∷ []) reply h = inl h
still_none keeps base after command (items.Commit commit ∷ j ∷ is) reply h = absurd h
still_none keeps base after command (items.Compaction c ∷ j ∷ is) reply h = absurd h

module _ {K : Type 0} (keeps : K → List Record → Kept → K → Type 0) (count node : ℕ) (there : node < count) (base : Topic) where
  -- what a call adds where the batch follows so
  abbrev Adds : List Item → PenState K → Command → Reply → Type 0
  Adds before m command reply =
      (acts : List Act) × Added count base before m.published acts × IsToldOf keeps base acts node m.published command reply

  follows_so : (kept : Kept) (keep : K) (l m : PenState K) (command : Command) (replied reply : Reply) (first : Record) (rest : List Record)
      → IsStep (registry_of (after_items base l.published)) (after_items base l.published).next command replied (first ∷ rest)
      → keeps keep (first ∷ rest) kept l.keep
      → Follows kept (item_of command (first ∷ rest)) replied (replies.Unsettled first.offset) l reply m → Adds l.published m command reply
  follows_so Taken keep l m command replied reply first rest step lent (inl done) = (
    Carried node command replied (first ∷ rest) ∷ [],
    carries count node base l.published m.published command replied (first ∷ rest) there step (ap (λ (s : PenState K). s.published) done.1),
    inl ([], first ∷ rest, ap (λ (r : Reply). Carried node command r (first ∷ rest) ∷ []) (sym done.0)),
  )
  follows_so Taken keep l m command replied reply first rest step lent (inr left) = (
    [],
    added_none count base l.published m.published (ap (λ (s : PenState K). s.published) left.1),
    inr (inr (inl (first.offset, left.0))),
  )
  follows_so (Declined lack) keep l m command replied reply first rest step lent h =
      let same : m.published ≡ l.published = ap (λ (s : PenState K). s.published) h.1 in (
        [],
        added_none count base l.published m.published same,
        inr (inr (inr (record {
          replied = replied;
          first = first;
          rest = rest;
          step = subst (λ (w : List Item). IsStepAfter base w command replied (first ∷ rest)) (sym same) step;
          lack = lack;
          keep = keep;
          keep' = l.keep;
          lent = lent;
          told = h.0;
        }))),
      )
  follows_so Lost keep l m command replied reply first rest step lent h = (
    [],
    added_none count base l.published m.published (ap (λ (s : PenState K). s.published) h.1),
    inr (inr (inl (first.offset, h.0))),
  )
  follows_so Unknown keep l m command replied reply first rest step lent h = (
    [],
    added_none count base l.published m.published (ap (λ (s : PenState K). s.published) h.1),
    inr (inr (inl (first.offset, h.0))),
  )

  acts_so : (l m : PenState K) (command : Command) (reply : Reply) → Acts keeps base l command reply m → Adds l.published m command reply
  acts_so l m command reply (inl none) = (
    Carried node command reply [] ∷ [],
    carries count node base l.published m.published command reply [] there none.0
        (ap (λ (s : PenState K). s.published) none.1 ∙ sym (append-nil l.published)),
    inl ([], [], refl),
  )
  acts_so l m command reply (inr (inl lends)) =
      follows_so lends.kept l.keep (record l { keep = lends.keep }) m command lends.replied reply lends.first lends.rest
      lends.step lends.lent lends.follows
  acts_so l m command reply (inr (inr refused)) =
      ([], added_none count base l.published m.published (ap (λ (s : PenState K). s.published) refused.1), inr (inl refused.0))

  -- behind acts that published what was pending
  behind_pending : (before mid : List Item) (m : PenState K) (command : Command) (reply : Reply)
      → ((acts : List Act) × Added count base before mid acts) → Adds mid m command reply → Adds before m command reply
  behind_pending before mid m command reply p (ys, added, inl told) = (
    p.0 ++ ys,
    added_more count base before mid m.published p.0 ys p.1 added,
    inl (p.0 ++ told.0, told.1, ap (λ l. p.0 ++ l) told.2 ∙ sym (append_assoc p.0 told.0 (Carried node command reply told.1 ∷ []))),
  )
  behind_pending before mid m command reply p (ys, added, inr none) =
      (p.0 ++ ys, added_more count base before mid m.published p.0 ys p.1 added, inr none)

  submits_so : (since : Option (Bor (List Item))) (l m : PenState K) (command : Command) (reply : Reply)
      → IsPen base l.published l.pending
      → Submits keeps base since l command reply m → Adds l.published m command reply
  submits_so since l m command reply pen (inl ahead) =
      ([], added_none count base l.published m.published (ap (λ (s : PenState K). s.published) ahead.2), inr (inl ahead.1))
  submits_so since l m command reply pen (inr (behind, inl still)) = (
    [],
    added_none count base l.published m.published (ap (λ (s : PenState K). s.published) still.1),
    inr (still_none keeps base m.published command l.pending reply still.0),
  )
  submits_so since l m command reply pen (inr (behind, inr acts)) =
      behind_pending l.published (l.published ++ l.pending) m command reply
      (pending_acts count node base l.published l.pending there pen.pends) (acts_so (settled l) m command reply acts.1)

module _ {K : Type 0} (count node : ℕ) (there : node < count) (base : Topic) where
  leaves_so : (floor : ℕ) (l m : PenState K) → IsPen base l.published l.pending
      → LeavesCompaction base floor l m → (acts : List Act) × Added count base l.published m.published acts
  leaves_so floor l m pen (inl same) = ([], added_none count base l.published m.published (ap (λ (s : PenState K). s.published) same))
  leaves_so floor l m pen (inr (inl settles)) =
      let p = pending_acts count node base l.published l.pending there pen.pends in
      (p.0, subst (λ is. Added count base l.published is p.0) (sym (ap (λ (s : PenState K). s.published) settles.1)) p.1)
  leaves_so floor l m pen (inr (inr waits)) =
      let p = pending_acts count node base l.published l.pending there pen.pends in
      (p.0, subst (λ is. Added count base l.published is p.0) (sym (ap (λ (s : PenState K). s.published) waits.3)) p.1)

  refused_so : (floor : ℕ) (l m : PenState K) (error : CompactError) → IsPen base l.published l.pending
      → IsCompactRefusal base floor l error m → (acts : List Act) × Added count base l.published m.published acts
  refused_so floor l m (refused.FloorBelow kept) pen h =
      ([], added_none count base l.published m.published (ap (λ (s : PenState K). s.published) h.2))
  refused_so floor l m (refused.FloorAhead next) pen h =
      ([], added_none count base l.published m.published (ap (λ (s : PenState K). s.published) h.3))
  refused_so floor l m refused.OutOfMemory pen h = leaves_so floor l m pen h.1.1
  refused_so floor l m refused.Lost pen h =
      ([], added_none count base l.published m.published (ap (λ (s : PenState K). s.published) h.1.1))

  compacts_so : (floor : ℕ) (l m : PenState K) → IsPen base l.published l.pending
      → CompactsOrNot base floor l m → (acts : List Act) × Added count base l.published m.published acts
  compacts_so floor l m pen (inl done) =
      let p = pending_acts count node base l.published l.pending there pen.pends in
      let c : Compaction = record { floor = floor; dropped = done.0 } in (
        p.0 ++ Dropped c ∷ [],
        added_more count base l.published (l.published ++ l.pending) m.published p.0 (Dropped c ∷ []) p.1
            (drops count base (l.published ++ l.pending) m.published c done.2.may_be (ap (λ (s : PenState K). s.published) done.3)),
      )
  compacts_so floor l m pen (inr h) = refused_so floor l m h.0 pen h.1

pub submits_are_acts : {K : Type 0} (keeps : K → List Record → Kept → K → Type 0) → SubmitsAreActs keeps
submits_are_acts keeps base since l m command reply count node there pen h =
    submits_so keeps count node there base since l m command reply pen h

pub compactions_are_acts : (K : Type 0) → CompactionsAreActs K
compactions_are_acts K base floor l m count some pen h = compacts_so count 0 some base floor l m pen h

-- Lawful lists.
pub lists_are_of_acts : LawfulListsAreOfActs
lists_are_of_acts base [] count some lawful = ([], tt, refl)
lists_are_of_acts base (i ∷ is) count some lawful =
    let one = item_act count 0 base [] (i ∷ []) i some lawful.0 refl in
    let more = lists_are_of_acts (after_item base i) is count some lawful.1 in (
      one.0 ++ more.0,
      acts_join count base one.0 more.0 one.1.are (subst (λ l. AreActs count (after_items base l) more.0) one.1.list more.1),
      flat_map-append items_of one.0 more.0 ∙ (ap (λ l. l ++ published more.0) (sym one.1.list) ∙ ap (λ l. i ∷ l) more.2),
    )

pub acts_are_lawful : ActsAreLawful
acts_are_lawful base [] count h = tt
acts_are_lawful base (Carried node command reply [] ∷ acts) count h = acts_are_lawful base acts count h.1
acts_are_lawful base (Carried node command reply (r ∷ rs) ∷ acts) count h = (
  record { reply = reply; step = h.0.1; writes = λ e. cc },
  acts_are_lawful (after_item base (items.Commit (record { command = command; batch = r ∷ rs }))) acts count h.1,
)
acts_are_lawful base (Dropped c ∷ acts) count h = (h.0, acts_are_lawful (after_item base (items.Compaction c)) acts count h.1)
