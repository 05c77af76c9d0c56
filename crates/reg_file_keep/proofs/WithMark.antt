-- What a file says once the mark is appended that its log lacks.
use Rattle.std.proofs.Common.{◌≡◌, ◌⊎◌, inl, inr, ⊎_elim, ℕ, suc, max, Bool, List, [], ◌∷◌, ◌++◌, Result, Ok, Err, sym, ap, subst, ◌∙◌, arith}
use Rattle.std.proofs.lemmas.Grind.{fold-append}
use Rattle.std.specs.List.{count_by}
use Rattle.std.specs.Prelude.{IfErr, IfOk}
use Rattle.reg_compaction.specs.Aside.{HasAll}
use Rattle.reg_journal.proofs.Moments.{joined, weaker}
use Rattle.reg_journal.specs.Disk.{LeavesOnly}
use Rattle.reg_journal.specs.Lines.{IsBeforeOrAfter, Said, batch_reads, said, with_batch}
use Rattle.reg_journal.specs.declared.disk.DiskError.{DiskError}
use Rattle.reg_journal.specs.declared.journal.AppendError.{AppendError}
use Rattle.reg_journal.specs.declared.renewal.RenewError.{RenewError}
use Rattle.reg_records.specs.Log.{IsLogOf, is_foreign, next_after, next_of, offset_in, records_in}
use Rattle.reg_records.specs.declared.log.Log.{Log}
use Rattle.reg_records.specs.declared.log.LogFault.{LogFault}
use Rattle.reg_records.specs.declared.record.Read.{Read}
use Rattle.reg_records.specs.declared.record.Read.TheVariants as reads
use Rattle.reg_records.specs.declared.record.Record.{Record}
use Rattle.reg_file_keep.specs.Marked.{IsLogSaid, SaysMarkedOrNot, lacked, lacked_by, marked}
use Rattle.reg_file_keep.specs.NotStarted.{HasStartCause, IsMarkRefusal}
use Rattle.reg_file_keep.specs.declared.starting.NotStarted.{NotStarted}
use Rattle.reg_file_keep.specs.declared.starting.StartFault.{StartFault}
use Rattle.reg_file_keep.specs.declared.starting.StartFault.TheVariants.{Mark}

abbrev Outcome : Type 0
Outcome = Result Said (ℕ × LogFault)

lacked_by_log : (says : Said) (log : Log) → IsLogOf says.floor says.reads log → lacked_by says ≡ lacked log.records.items log.next
lacked_by_log says log is =
    ap (λ (rs : List Record). lacked rs (next_of says.floor says.reads)) (sym is.records)
    ∙ ap (lacked log.records.items) (sym is.next)

pub marked_with : (outcome : Outcome) (log : Log) (batch : List Record) → IsLogSaid outcome log → lacked log.records.items log.next ≡ batch
    → marked outcome ≡ with_batch batch outcome
marked_with outcome log batch told is =
    let says = told.0 in
    ap marked told.1
    ∙ ap (λ (b : List Record). with_batch b (Ok says)) (lacked_by_log says log told.2 ∙ is)
    ∙ ap (with_batch batch) (sym told.1)

pub lacks : (outcome : Outcome) (log : Log) (batch : List Record) → IsLogSaid outcome log → lacked log.records.items log.next ≡ batch
    → IfOk outcome (λ says. lacked_by says ≡ batch)
lacks outcome log batch told is =
    subst (λ (o : Outcome). IfOk o (λ says. lacked_by says ≡ batch)) (sym told.1) (lacked_by_log told.0 log told.2 ∙ is)

next_behind_mark : (floor : ℕ) (read : List Read) (mark : Record) → mark.offset ≡ next_of floor read
    → next_of floor (read ++ reads.Record mark ∷ []) ≡ suc (next_of floor read)
next_behind_mark floor read mark is =
    let one_more : next_after (read ++ reads.Record mark ∷ []) ≡ max (next_after read) (suc mark.offset) =
    fold-append (λ (next : ℕ) (r : Read). max next (suc (offset_in r))) 0 read (reads.Record mark ∷ []) in
    omega (arith, one_more, is)

pub one_more_said : ((read : List Read) (batch : List Record) → records_in (read ++ batch_reads batch) ≡ records_in read ++ batch)
    → ((read : List Read) (batch : List Record) → count_by is_foreign (read ++ batch_reads batch) ≡ count_by is_foreign read)
    → (outcome : Outcome) (log new : Log) (mark : Record) → IsLogSaid outcome log → mark.offset ≡ log.next
    → new.records.items ≡ log.records.items ++ mark ∷ [] → new.next ≡ suc log.next → new.foreign ≡ log.foreign → new.floor ≡ log.floor
    → IsLogSaid (with_batch (mark ∷ []) outcome) new
one_more_said joins foreigns outcome log new mark told at records next foreign floor =
    let says = told.0 in
    let is = told.2 in (
      record says { reads = says.reads ++ batch_reads (mark ∷ []) },
      ap (with_batch (mark ∷ [])) told.1,
      record {
        records = records ∙ ap (λ (l : List Record). l ++ mark ∷ []) is.records ∙ sym (joins says.reads (mark ∷ []));
        foreign = foreign ∙ is.foreign ∙ sym (foreigns says.reads (mark ∷ []));
        floor = floor ∙ is.floor;
        next = next ∙ ap suc is.next ∙ sym (next_behind_mark says.floor says.reads mark (at ∙ is.next));
      },
    )

module _ {D : Type 0} (moment : D → ℕ) (left_since : D → ℕ → List ℕ → Type 0) (may_leave : D → List ℕ → Type 0) (seen : D → List ℕ) where
  -- an append of the mark leaves a file that says it, or not
  pub marked_or_not : (old new : D) (batch : List Record) → marked (said (seen old)) ≡ with_batch batch (said (seen old))
      → LeavesOnly moment left_since may_leave old new (IsBeforeOrAfter (said (seen old)) batch)
      → LeavesOnly moment left_since may_leave old new (SaysMarkedOrNot (said (seen old)))
  marked_or_not old new batch is leaves =
      weaker moment left_since may_leave old new (IsBeforeOrAfter (said (seen old)) batch) (SaysMarkedOrNot (said (seen old))) leaves
      (λ c left. ⊎_elim (λ before. inl before) (λ after. inr (after ∙ sym is)) left)

  -- the log is opened, and then the mark is appended, or none is
  pub opened_and_marked : (disk mid new : D) → said (seen mid) ≡ said (seen disk)
      → LeavesOnly moment left_since may_leave disk mid (λ c. HasAll (may_leave disk) (seen disk) c ⊎ (said c ≡ said (seen disk)))
      → (new ≡ mid) ⊎ LeavesOnly moment left_since may_leave mid new (SaysMarkedOrNot (said (seen mid)))
      → LeavesOnly moment left_since may_leave disk new (λ c. HasAll (may_leave disk) (seen disk) c ⊎ SaysMarkedOrNot (said (seen disk)) c)
  opened_and_marked disk mid new same first next =
      let P : List ℕ → Type 0 = λ c. HasAll (may_leave disk) (seen disk) c ⊎ (said c ≡ said (seen disk)) in
      let Q : List ℕ → Type 0 = λ c. HasAll (may_leave disk) (seen disk) c ⊎ SaysMarkedOrNot (said (seen disk)) c in
      let early : (c : List ℕ) → P c → Q c = λ c left. ⊎_elim (λ has. inl has) (λ says. inr (inl says)) left in
      ⊎_elim
      (λ is. subst (λ (d : D). LeavesOnly moment left_since may_leave disk d Q) (sym is)
      (weaker moment left_since may_leave disk mid P Q first early))
      (λ more. weaker moment left_since may_leave disk new _ Q
      (joined moment left_since may_leave disk mid new P (SaysMarkedOrNot (said (seen mid))) first more)
      (λ c left. ⊎_elim (early c)
      (λ later. inr (subst (λ (o : Outcome). SaysMarkedOrNot o c) same later)) left))
      next

module _ {D : Type 0} (is_modelled : Type 0) (known : D → Type 0) (seen : D → List ℕ) (may_leave : D → List ℕ → Type 0)
    (faults : D → DiskError → D → Type 0) (named : D → Bool → Type 0) where
  -- the cause is that of a log which says the same
  pub cause_of_same : (disk mid : D) (error : AppendError) (new : D) → said (seen mid) ≡ said (seen disk)
      → IsMarkRefusal is_modelled known seen may_leave faults named mid error new
      → IsMarkRefusal is_modelled known seen may_leave faults named disk error new
  cause_of_same disk mid error new same refused =
      ⊎_elim
      (λ none. inl none)
      (λ has. inr (record {
        mark = has.mark;
        lacks = subst (λ (o : Outcome). IfOk o (λ says. lacked_by says ≡ has.mark ∷ [])) same has.lacks;
        before = has.before;
        same = has.same ∙ same;
        sound = has.sound;
        ready = has.ready;
        after = has.after;
        is_new = has.is_new;
        cause = has.cause;
      }))
      refused

  -- where a start ends so, its cause lies in the file that it was given
  pub start_caused : {T : Type 0} (renewals : D → RenewError → D → Type 0) (beside : Type 0) (disk mid : D)
      (result : Result T (NotStarted D)) → said (seen mid) ≡ said (seen disk)
      → IfErr result (λ it. (error : AppendError) × (it.error ≡ Mark error)
      × IsMarkRefusal is_modelled known seen may_leave faults named mid error it.disk)
      → IfErr result (λ it. HasStartCause is_modelled known seen may_leave faults renewals named beside disk it.error it.disk)
  start_caused renewals beside disk mid (Ok started) same has = tt
  start_caused renewals beside disk mid (Err it) same has =
      subst (λ (e : StartFault). HasStartCause is_modelled known seen may_leave faults renewals named beside disk e it.disk) (sym has.1)
      (cause_of_same disk mid has.0 it.disk same has.2)
