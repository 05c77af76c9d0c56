-- What a submit leaves in the file.
use Rattle.std.proofs.Common.{◌≡◌, ⊎_elim, ℕ, Bool, true, false, List, [], ◌∷◌, ◌++◌, Option, Result, Ok, Err}
use Rattle.std.proofs.Common.{refl, sym, ap, subst, subst₂, ◌∙◌, append_assoc, append-nil, true≢false}
use Rattle.std.specs.Borrow.{Bor}
use Rattle.reg_journal.specs.Disk.{Only}
use Rattle.reg_journal.specs.Lines.{IsBeforeOrAfter, Said, batch_reads, said, with_batch}
use Rattle.reg_journal.specs.declared.disk.DiskError.{DiskError}
use Rattle.reg_journal.specs.declared.renewal.RenewError.{RenewError}
use Rattle.reg_compaction.specs.Said.{BatchesFollowCompactions, SaidCompactionsCompose, SaysCompaction}
use Rattle.reg_leader.specs.declared.command.Command.{Command}
use Rattle.reg_leader.specs.declared.reply.Reply.{Reply}
use Rattle.reg_leader.specs.declared.reply.Reply.TheVariants as replies
use Rattle.reg_pen.specs.Pen.{Acts, Follows, PenState, Submits, item_of}
use Rattle.reg_pen.specs.declared.keep.Kept.{Kept}
use Rattle.reg_pen.specs.declared.keep.Kept.TheVariants.{Taken, Declined, Lost, Unknown}
use Rattle.reg_records.specs.declared.log.LogFault.{LogFault}
use Rattle.reg_records.specs.declared.record.Read.{Read}
use Rattle.reg_records.specs.declared.record.Read.TheVariants as reads
use Rattle.reg_records.specs.declared.record.Record.{Record}
use Rattle.reg_topic.specs.declared.published.Item.{Item}
use Rattle.reg_topic.specs.declared.published.Item.TheVariants as items
use Rattle.reg_topic.specs.declared.topic.Topic.{Topic}
use Rattle.reg_file_keep.specs.KeepState.{KeepState}
use Rattle.reg_file_keep.specs.Keeping.{Ends, KeepsFile}
use Rattle.reg_file_keep.specs.Published.{SaysPublished, batched}

reads_of_both : (a b : List Record) → batch_reads (a ++ b) ≡ batch_reads a ++ batch_reads b
reads_of_both [] b = refl
reads_of_both (r ∷ a) b = ap (λ (l : List Read). reads.Record r ∷ l) (reads_of_both a b)

both_said : (a b : List Record) (s : Result Said (ℕ × LogFault)) → with_batch b (with_batch a s) ≡ with_batch (a ++ b) s
both_said a b (Ok says) =
    ap (λ (l : List Read). Ok (record says { reads = l }))
    (append_assoc says.reads (batch_reads a) (batch_reads b) ∙ ap (λ (l : List Read). says.reads ++ l) (sym (reads_of_both a b)))
both_said a b (Err e) = refl

batched_both : (xs ys : List Item) → batched (xs ++ ys) ≡ batched xs ++ batched ys
batched_both [] ys = refl
batched_both (items.Commit commit ∷ xs) ys =
    ap (λ (l : List Record). commit.batch ++ l) (batched_both xs ys) ∙ sym (append_assoc commit.batch (batched xs) (batched ys))
batched_both (items.Compaction c ∷ xs) ys = batched_both xs ys

module _ {D : Type 0} (seen : D → List ℕ) (may_leave : D → List ℕ → Type 0) (first : Result Said (ℕ × LogFault)) where
  abbrev pub says_items : List Item → KeepState D → Type 0
  says_items is keep = SaysCompaction (with_batch (batched is) first) (said (seen keep.journal.disk))

  -- the file says a compaction of the items' batches behind what was said at first, and a crash leaves it
  abbrev pub Here : List Item → KeepState D → Type 0
  Here is keep = (keep.journal.is_broken ≡ false) × says_items is keep × Only (seen keep.journal.disk) (may_leave keep.journal.disk)

  pub says_now : (l : PenState (KeepState D)) → l.lost ≡ false → Here (l.published ++ l.pending) l.keep
      → SaysPublished seen may_leave first l
  says_now l kept here = record {
    sound = λ is. here.0;
    file = λ is. here.1;
    durable = λ is. here.2;
    lost = λ is c left. absurd (true≢false (sym is ∙ kept));
  }

  none_pending : (published : List Item) (keep : KeepState D) → Here published keep → Here (published ++ []) keep
  none_pending published keep here = subst (λ (is : List Item). Here is keep) (sym (append-nil published)) here

module _ {D : Type 0} (across : SaidCompactionsCompose) (follow : BatchesFollowCompactions) (is_modelled : Type 0)
    (moment : D → ℕ) (left_since : D → ℕ → List ℕ → Type 0) (may_leave : D → List ℕ → Type 0) (seen : D → List ℕ)
    (faults : D → DiskError → D → Type 0) (renewals : D → RenewError → D → Type 0) (named : D → Bool → Type 0)
    (modelled : is_modelled) (first : Result Said (ℕ × LogFault)) where
  -- a batch that is taken
  taken : (keep old : KeepState D) (published is : List Item) (batch : List Record) → batched is ≡ batch
      → says_items seen may_leave first published old
      → Ends is_modelled seen old.journal batch Taken keep.journal → says_items seen may_leave first (published ++ is) keep
  taken keep old published is batch same says ends =
      let now = ends.1 modelled in
      let before = across (with_batch (batched published) first) (said (seen old.journal.disk)) now.0 says now.1 in
      subst₂ SaysCompaction
      (both_said (batched published) batch first
      ∙ ap (λ (l : List Record). with_batch l first)
      (ap (λ (l : List Record). batched published ++ l) (sym same) ∙ sym (batched_both published is)))
      (sym now.3)
      (follow batch (with_batch (batched published) first) now.0 before now.2)

  -- what becomes of a batch that is lent, where nothing is pending
  lent : (kept : Kept) (keep : KeepState D) (published : List Item) (old : KeepState D) (is : List Item)
      (batch : List Record) (replied unsettled reply : Reply) (m : PenState (KeepState D))
      → batched is ≡ batch
      → Here seen may_leave first published old
      → KeepsFile is_modelled moment left_since may_leave seen faults renewals named old batch kept keep
      → Follows kept is replied unsettled (record { published = published; pending = []; lost = false; keep = keep }) reply m
      → SaysPublished seen may_leave first m
  lent Taken keep published old is batch replied unsettled reply m same here keeps follows =
      let all : Here seen may_leave first (published ++ is) keep =
      (keeps.ends.0, taken keep old published is batch same here.1 keeps.ends, keeps.durable modelled keeps.ends.0) in
      ⊎_elim
      (λ done.
      subst (λ (n : PenState (KeepState D)). SaysPublished seen may_leave first n) (sym done.1)
      (says_now seen may_leave first (record { published = published ++ is; pending = []; lost = false; keep = keep }) refl
      (none_pending seen may_leave first (published ++ is) keep all)))
      (λ pends.
      subst (λ (n : PenState (KeepState D)). SaysPublished seen may_leave first n) (sym pends.1)
      (says_now seen may_leave first (record { published = published; pending = is; lost = false; keep = keep }) refl all))
      follows
  lent (Declined lack) keep published old is batch replied unsettled reply m same here keeps follows =
      let now : Here seen may_leave first published keep = (
        keeps.ends.0,
        across (with_batch (batched published) first) (said (seen old.journal.disk)) (said (seen keep.journal.disk)) here.1
            (keeps.ends.1 modelled),
        keeps.durable modelled keeps.ends.0,
      ) in
      subst (λ (n : PenState (KeepState D)). SaysPublished seen may_leave first n) (sym follows.1)
      (says_now seen may_leave first (record { published = published; pending = []; lost = false; keep = keep }) refl
      (none_pending seen may_leave first published keep now))
  lent Lost keep published old is batch replied unsettled reply m same here keeps follows =
      subst (λ (n : PenState (KeepState D)). SaysPublished seen may_leave first n) (sym follows.1)
      (record {
        sound = λ kept. absurd (true≢false kept);
        file = λ kept. absurd (true≢false kept);
        durable = λ kept. absurd (true≢false kept);
        lost = λ is_lost c left.
            let a = (keeps.any_moment modelled here.0).now c left in (
              a.0,
              across (with_batch (batched published) first) (said (seen old.journal.disk)) a.0 here.1 a.1,
              subst (λ (b : List Record). IsBeforeOrAfter a.0 b c) (sym same) a.2,
            );
      })
  lent Unknown keep published old is batch replied unsettled reply m same here keeps follows = absurd keeps.ends

  acted : (base : Topic) (published : List Item) (old : KeepState D) (lost : Bool) (c : Command) (reply : Reply)
      (m : PenState (KeepState D))
      → lost ≡ false
      → Here seen may_leave first published old
      → Acts (KeepsFile is_modelled moment left_since may_leave seen faults renewals named) base
      (record { published = published; pending = []; lost = lost; keep = old }) c reply m
      → SaysPublished seen may_leave first m
  acted base published old true c reply m kept here acts = absurd (true≢false kept)
  acted base published old false c reply m kept here acts =
      let still : SaysPublished seen may_leave first (record { published = published; pending = []; lost = false; keep = old }) =
      says_now seen may_leave first (record { published = published; pending = []; lost = false; keep = old }) refl
      (none_pending seen may_leave first published old here) in
      ⊎_elim
      (λ wrote_nothing. subst (λ (n : PenState (KeepState D)). SaysPublished seen may_leave first n) (sym wrote_nothing.1) still)
      (λ more. ⊎_elim
      (λ lends.
      lent lends.kept lends.keep published old (item_of c (lends.first ∷ lends.rest))
      (lends.first ∷ lends.rest) lends.replied (replies.Unsettled lends.first.offset) reply m
      (append-nil (lends.first ∷ lends.rest)) here lends.lent lends.follows)
      (λ refused. subst (λ (n : PenState (KeepState D)). SaysPublished seen may_leave first n) (sym refused.1) still)
      more)
      acts

  pub submitted : (base : Topic) (since : Option (Bor (List Item))) (l m : PenState (KeepState D)) (c : Command) (reply : Reply)
      → Submits (KeepsFile is_modelled moment left_since may_leave seen faults renewals named) base since l c reply m
      → SaysPublished seen may_leave first l → SaysPublished seen may_leave first m
  submitted base since l m c reply submits says =
      ⊎_elim
      (λ ahead. subst (λ (n : PenState (KeepState D)). SaysPublished seen may_leave first n) (sym ahead.2) says)
      (λ behind. ⊎_elim
      (λ still. subst (λ (n : PenState (KeepState D)). SaysPublished seen may_leave first n) (sym still.1) says)
      (λ acts. acted base (l.published ++ l.pending) l.keep l.lost c reply m acts.0
      (says.sound acts.0, says.file acts.0, says.durable acts.0) acts.1)
      behind.1)
      submits
