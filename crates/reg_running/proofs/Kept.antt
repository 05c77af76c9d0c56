-- The keep has taken what is published.
use Rattle.std.proofs.Common.{◌≡◌, inl, inr, ℕ, Bool, true, false, if◌then◌else◌, List, [], ◌∷◌, ◌++◌, Option}
use Rattle.std.proofs.Common.{refl, sym, ap, subst, ◌∙◌, append_assoc, true≢false}
use Rattle.std.proofs.lemmas.List.{append-nil}
use Rattle.std.proofs.lemmas.List.Concat.{flat_map-append}
use Rattle.std.specs.Borrow.{Bor}
use mathlib.Core.List.{IsPrefix}
use Rattle.reg_records.specs.declared.record.Record.{Record}
use Rattle.reg_leader.specs.declared.command.Command.{Command}
use Rattle.reg_leader.specs.declared.reply.Reply.{Reply}
use Rattle.reg_leader.specs.declared.reply.Reply.TheVariants as replies
use Rattle.reg_topic.specs.declared.published.Compaction.{Compaction}
use Rattle.reg_topic.specs.declared.published.Item.{Item}
use Rattle.reg_topic.specs.declared.published.Item.TheVariants as items
use Rattle.reg_topic.specs.declared.topic.Topic.{Topic}
use Rattle.reg_pen.specs.Pen.{Acts, CompactsOrNot, Follows, IsCompactRefusal, LeavesCompaction, PenState, Submits, item_of, settled}
use Rattle.reg_pen.specs.declared.compact_error.CompactError.{CompactError}
use Rattle.reg_pen.specs.declared.compact_error.CompactError.TheVariants as refused
use Rattle.reg_pen.specs.declared.keep.Kept.{Kept}
use Rattle.reg_pen.specs.declared.keep.Kept.TheVariants.{Taken, Declined, Lost, Unknown}
use Rattle.reg_running.specs.Kept.{AreLent, CallsStayKept, HasKept, Lending, PensBeginKept, SeenBatchesAreTaken}
use Rattle.reg_running.specs.Kept.{batches_in, batches_taken, if_taken, not_lost}

batches_append : (is js : List Item) → batches_in (is ++ js) ≡ batches_in is ++ batches_in js
batches_append [] js = refl
batches_append (items.Commit commit ∷ is) js = ap (λ (w : List (List Record)). commit.batch ∷ w) (batches_append is js)
batches_append (items.Compaction c ∷ is) js = batches_append is js

-- a compaction is no batch
compaction_adds_none : (is : List Item) (c : Compaction) → batches_in (is ++ items.Compaction c ∷ []) ≡ batches_in is
compaction_adds_none is c = batches_append is (items.Compaction c ∷ []) ∙ append-nil (batches_in is)

all_not_lost : (lost : Bool) (is js : List Item) → lost ≡ false → is ++ (if lost then [] else js) ≡ is ++ js
all_not_lost true is js e = absurd (true≢false e)
all_not_lost false is js e = refl

none_pending : (lost : Bool) (is js : List Item) → js ≡ [] → is ++ (if lost then [] else js) ≡ is
none_pending true is js e = append-nil is
none_pending false is js e = ap (λ (w : List Item). is ++ w) e ∙ append-nil is

-- what is settled was not lost
settled_kept : {K : Type 0} (l : PenState K) → l.lost ≡ false → not_lost (settled l) ≡ not_lost l
settled_kept l e = none_pending l.lost (l.published ++ l.pending) [] refl ∙ sym (all_not_lost l.lost l.published l.pending e)

module _ {K : Type 0} (keeps : K → List Record → Kept → K → Type 0) (begun : K) where
  -- what was lent goes on
  abbrev GoesOn : (l m : PenState K) → HasKept keeps begun l → Type 0
  GoesOn l m kept = (more : HasKept keeps begun m) × IsPrefix kept.lendings more.lendings

  one_more : (k : K) (xs : List (Lending keeps)) (end : K) (x : Lending keeps)
      → AreLent keeps k xs end → x.before ≡ end → AreLent keeps k (xs ++ x ∷ []) x.after
  one_more k [] end x are e = (e ∙ are, refl)
  one_more k (y ∷ ys) end x are e = (are.0, one_more y.after ys end x are.1 e)

  -- nothing more was lent
  none_lent : (l m : PenState K) (kept : HasKept keeps begun l)
      → m.keep ≡ l.keep → batches_in (not_lost m) ≡ batches_in (not_lost l) → GoesOn l m kept
  none_lent l m kept keep same = (
    record {
      lendings = kept.lendings;
      are_lent = subst (λ (k : K). AreLent keeps begun kept.lendings k) (sym keep) kept.are_lent;
      taken = kept.taken ∙ sym same;
    },
    ([], append-nil kept.lendings),
  )

  same_pen : (l m : PenState K) (kept : HasKept keeps begun l) → m ≡ l → GoesOn l m kept
  same_pen l m kept e = none_lent l m kept (ap (λ (s : PenState K). s.keep) e) (ap (λ (s : PenState K). batches_in (not_lost s)) e)

  -- one batch more was lent
  one_lent : (l m : PenState K) (kept : HasKept keeps begun l) (x : Lending keeps) → x.before ≡ l.keep → m.keep ≡ x.after
      → batches_in (not_lost m) ≡ batches_in (not_lost l) ++ if_taken x.kept x.batch → GoesOn l m kept
  one_lent l m kept x at keep more = (
    record {
      lendings = kept.lendings ++ x ∷ [];
      are_lent = subst (λ (k : K). AreLent keeps begun (kept.lendings ++ x ∷ []) k) (sym keep)
          (one_more begun kept.lendings l.keep x kept.are_lent at);
      taken = flat_map-append (λ (y : Lending keeps). if_taken y.kept y.batch) kept.lendings (x ∷ [])
          ∙ (ap (λ (w : List (List Record)). batches_taken keeps kept.lendings ++ w) (append-nil (if_taken x.kept x.batch))
          ∙ (ap (λ (w : List (List Record)). w ++ if_taken x.kept x.batch) kept.taken ∙ sym more));
    },
    (x ∷ [], refl),
  )

  -- one that wasn't taken
  none_taken : (l m : PenState K) (kept : HasKept keeps begun l) (x : Lending keeps) → x.before ≡ l.keep → m.keep ≡ x.after
      → if_taken x.kept x.batch ≡ [] → batches_in (not_lost m) ≡ batches_in (not_lost l) → GoesOn l m kept
  none_taken l m kept x at keep none same =
      one_lent l m kept x at keep
      (same ∙ (sym (append-nil (batches_in (not_lost l))) ∙ ap (λ (w : List (List Record)). batches_in (not_lost l) ++ w) (sym none)))

  module _ (l m : PenState K) (clear : l.pending ≡ []) (kept : HasKept keeps begun l) where
    -- nothing is pending
    only_published : batches_in (not_lost l) ≡ batches_in l.published
    only_published = ap batches_in (none_pending l.lost l.published l.pending clear)

    follows_kept : (k : Kept) (keep : K) (command : Command) (replied unsettled reply : Reply) (first : Record) (rest : List Record)
        → keeps l.keep (first ∷ rest) k keep
        → Follows k (item_of command (first ∷ rest)) replied unsettled (record l { keep = keep }) reply m → GoesOn l m kept
    follows_kept Taken keep command replied unsettled reply first rest lent (inl done) =
        one_lent l m kept (record { before = l.keep; batch = first ∷ rest; kept = Taken; after = keep; lent = lent })
        refl (ap (λ (s : PenState K). s.keep) done.1)
        (ap (λ (s : PenState K). batches_in (not_lost s)) done.1
        ∙ (ap batches_in (append-nil (l.published ++ item_of command (first ∷ rest)))
        ∙ (batches_append l.published (item_of command (first ∷ rest))
        ∙ ap (λ (w : List (List Record)). w ++ (first ∷ rest) ∷ []) (sym only_published))))
    follows_kept Taken keep command replied unsettled reply first rest lent (inr left) =
        one_lent l m kept (record { before = l.keep; batch = first ∷ rest; kept = Taken; after = keep; lent = lent })
        refl (ap (λ (s : PenState K). s.keep) left.1)
        (ap (λ (s : PenState K). batches_in (not_lost s)) left.1
        ∙ (batches_append l.published (item_of command (first ∷ rest))
        ∙ ap (λ (w : List (List Record)). w ++ (first ∷ rest) ∷ []) (sym only_published)))
    follows_kept (Declined lack) keep command replied unsettled reply first rest lent h =
        none_taken l m kept (record { before = l.keep; batch = first ∷ rest; kept = Declined lack; after = keep; lent = lent })
        refl (ap (λ (s : PenState K). s.keep) h.1) refl (ap (λ (s : PenState K). batches_in (not_lost s)) h.1)
    follows_kept Lost keep command replied unsettled reply first rest lent h =
        none_taken l m kept (record { before = l.keep; batch = first ∷ rest; kept = Lost; after = keep; lent = lent })
        refl (ap (λ (s : PenState K). s.keep) h.1) refl
        (ap (λ (s : PenState K). batches_in (not_lost s)) h.1 ∙ (ap batches_in (append-nil l.published) ∙ sym only_published))
    follows_kept Unknown keep command replied unsettled reply first rest lent h =
        none_taken l m kept (record { before = l.keep; batch = first ∷ rest; kept = Unknown; after = keep; lent = lent })
        refl (ap (λ (s : PenState K). s.keep) h.1) refl (ap (λ (s : PenState K). batches_in (not_lost s)) h.1)

    acts_kept : (base : Topic) (command : Command) (reply : Reply) → Acts keeps base l command reply m → GoesOn l m kept
    acts_kept base command reply (inl none) = same_pen l m kept none.1
    acts_kept base command reply (inr (inl lends)) =
        follows_kept lends.kept lends.keep command lends.replied (replies.Unsettled lends.first.offset) reply lends.first lends.rest
        lends.lent lends.follows
    acts_kept base command reply (inr (inr refused)) = same_pen l m kept refused.1

  -- what was pending is published
  abbrev settle_kept : (l : PenState K) → l.lost ≡ false → HasKept keeps begun l → HasKept keeps begun (settled l)
  settle_kept l e kept =
      record { lendings = kept.lendings; are_lent = kept.are_lent; taken = kept.taken ∙ sym (ap batches_in (settled_kept l e)) }

  module _ (l m : PenState K) (kept : HasKept keeps begun l) where
    submits_kept : (base : Topic) (since : Option (Bor (List Item))) (command : Command) (reply : Reply)
        → Submits keeps base since l command reply m → GoesOn l m kept
    submits_kept base since command reply (inl ahead) = same_pen l m kept ahead.2
    submits_kept base since command reply (inr (behind, inl still)) = same_pen l m kept still.1
    submits_kept base since command reply (inr (behind, inr acts)) =
        acts_kept (settled l) m refl (settle_kept l acts.0 kept) base command reply acts.1

    leaves_kept : (base : Topic) (floor : ℕ) → LeavesCompaction base floor l m → GoesOn l m kept
    leaves_kept base floor (inl same) = same_pen l m kept same
    leaves_kept base floor (inr (inl settles)) = same_pen (settled l) m (settle_kept l settles.0 kept) settles.1
    leaves_kept base floor (inr (inr waits)) =
        let c : Compaction = record { floor = floor; dropped = waits.0 } in
        none_lent l m kept (ap (λ (s : PenState K). s.keep) waits.3)
        (ap (λ (s : PenState K). batches_in (not_lost s)) waits.3
        ∙ (ap batches_in (all_not_lost l.lost (l.published ++ l.pending) (items.Compaction c ∷ []) waits.1)
        ∙ (compaction_adds_none (l.published ++ l.pending) c
        ∙ ap batches_in (sym (all_not_lost l.lost l.published l.pending waits.1)))))

    refused_kept : (base : Topic) (floor : ℕ) (error : CompactError) → IsCompactRefusal base floor l error m → GoesOn l m kept
    refused_kept base floor (refused.FloorBelow below) h = same_pen l m kept h.2
    refused_kept base floor (refused.FloorAhead next) h = same_pen l m kept h.3
    refused_kept base floor refused.OutOfMemory h = leaves_kept base floor h.1.1
    refused_kept base floor refused.Lost h = same_pen l m kept h.1.1

    compacts_kept : (base : Topic) (floor : ℕ) → CompactsOrNot base floor l m → GoesOn l m kept
    compacts_kept base floor (inl done) =
        let c : Compaction = record { floor = floor; dropped = done.0 } in
        none_lent l m kept (ap (λ (s : PenState K). s.keep) done.3)
        (ap (λ (s : PenState K). batches_in (not_lost s)) done.3
        ∙ (ap batches_in (none_pending l.lost ((l.published ++ l.pending) ++ items.Compaction c ∷ []) [] refl)
        ∙ (compaction_adds_none (l.published ++ l.pending) c
        ∙ ap batches_in (sym (all_not_lost l.lost l.published l.pending done.1)))))
    compacts_kept base floor (inr h) = refused_kept base floor h.0 h.1

pub begin_kept : {K : Type 0} (keeps : K → List Record → Kept → K → Type 0) → PensBeginKept keeps
begin_kept keeps l none clear =
    record { lendings = []; are_lent = refl; taken = sym (ap batches_in (none_pending l.lost l.published l.pending clear ∙ none)) }

pub stay_kept : {K : Type 0} (keeps : K → List Record → Kept → K → Type 0) → CallsStayKept keeps
stay_kept keeps base since l m command reply floor begun kept (inl submits) =
    submits_kept keeps begun l m kept base since command reply submits
stay_kept keeps base since l m command reply floor begun kept (inr compacts) = compacts_kept keeps begun l m kept base floor compacts

pub seen_taken : {K : Type 0} (keeps : K → List Record → Kept → K → Type 0) → SeenBatchesAreTaken keeps
seen_taken keeps begun l seen kept p =
    let more : List Item = if l.lost then [] else l.pending in (
      batches_in p.0 ++ batches_in more,
      sym (append_assoc (batches_in seen) (batches_in p.0) (batches_in more))
          ∙ (ap (λ (w : List (List Record)). w ++ batches_in more) (sym (batches_append seen p.0) ∙ ap batches_in p.1)
          ∙ (sym (batches_append l.published more) ∙ sym kept.taken)),
    )
