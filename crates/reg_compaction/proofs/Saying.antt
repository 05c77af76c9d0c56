-- What a compaction says, and with batches behind it.
use Rattle.std.proofs.Common.{◌≡◌, ◌≤◌, ⊎_elim, Some, None, true, ◌++◌, ◌||◌, ℕ, suc, List, [], ◌∷◌}
use Rattle.std.proofs.Common.{Result, Ok, max, refl, sym, ap, ap₂, subst, subst₂, ◌∙◌, arith}
use Rattle.std.proofs.lemmas.Bool.{or_cases, false≢true}
use Rattle.std.proofs.lemmas.List.Elements.{All-head, All-tail}
use Rattle.std.proofs.lemmas.List.Folds.{list_any-append}
use Rattle.std.proofs.lemmas.List.Sums.{fold-append}
use Rattle.std.specs.Cmp.{IsTotalOrder}
use Rattle.std.specs.FinSet.{IsAntisymmetric, contains, contains-from_list, contains-union, from_list, same_set, union}
use Rattle.std.specs.Ordering.{eq_by_cmp}
use Rattle.std.specs.List.{All, list_any}
use Rattle.std.specs.Prelude.{Bool, fold}
use Rattle.std.specs.Result.{result_map_both}
use Rattle.reg_journal.specs.Lines.{Said, said, batch_reads, with_batch}
use Rattle.reg_records.specs.Log.{LogText, next_after, next_of, offset_in, records_in}
use Rattle.reg_records.specs.declared.log.LogFault.{LogFault}
use Rattle.reg_records.specs.declared.record.Read.{Read}
use Rattle.reg_records.specs.declared.record.Record.{Record}
use Rattle.reg_floored.specs.Compaction.{IsCompactionOf}
use Rattle.reg_floored.specs.Laws.{CompactedToFloorIsCompaction, CompactionsCompose}
use Rattle.reg_floored.specs.Laws.{EachIsItsOwnCompaction}
use Rattle.reg_floored.specs.Laws.{LaterRecordsMayJoin, LastRecordsAreCompaction}
use Rattle.reg_set.specs.RecordOrder.{key_cmp, record_cmp}
use Rattle.reg_set.specs.Records.{Records}
use Rattle.reg_compaction.specs.Compacted.{IsCompacted}
use Rattle.reg_compaction.specs.CompactedTo.{IsCompactedTo}
use Rattle.reg_compaction.specs.Said.{BatchesFollowCompactions, CompactedFilesSayIt}
use Rattle.reg_compaction.specs.Said.{EachSaysItsOwnCompaction, IsFromFloor, SaidCompactionsCompose}
use Rattle.reg_compaction.specs.Said.{SaysCompaction, floored}
use Rattle.reg_compaction.proofs.Lasts.{same_record}

abbrev Outcome : Type 0
Outcome = Result Said (ℕ × LogFault)

abbrev of_log : Result LogText (ℕ × LogFault) → Outcome
of_log found = result_map_both (λ (log : LogText). record { floor = log.floor; reads = log.reads }) (λ fault. fault) found

abbrev set_of : List Read → Records
set_of read = from_list (records_in read)

at_own : LastRecordsAreCompaction → (file output : List ℕ) → IsCompacted file output → SaysCompaction (said file) (said output)
at_own least file output is = record {
  whole = record { floor = is.log.floor; reads = is.log.reads };
  left = record { floor = is.out.floor; reads = is.out.reads };
  said_before = ap of_log is.read;
  said_now = ap of_log is.read_back;
  records =
      subst₂ (λ (s : Records) (f : ℕ).
      IsCompactionOf (record { records = s; floor = f }) (record { records = set_of is.log.reads; floor = is.log.floor }))
      (sym is.lasts) (sym is.floor) (least (record { records = set_of is.log.reads; floor = is.log.floor }));
  next = is.next;
}

at_floor : CompactedToFloorIsCompaction → (floor : ℕ) (file output : List ℕ)
    → IsCompactedTo floor file output → SaysCompaction (said file) (said output)
at_floor least floor file output is = record {
  whole = record { floor = is.log.floor; reads = is.log.reads };
  left = record { floor = is.out.floor; reads = is.out.reads };
  said_before = ap of_log is.read;
  said_now = ap of_log is.read_back;
  records =
      subst₂ (λ (s : Records) (f : ℕ).
      IsCompactionOf (record { records = s; floor = f }) (record { records = set_of is.log.reads; floor = is.log.floor }))
      (sym is.lasts) (sym is.floor) (least (record { records = set_of is.log.reads; floor = is.log.floor }) floor is.rises);
  next = is.next;
}

pub of_compacted : LastRecordsAreCompaction → CompactedToFloorIsCompaction → CompactedFilesSayIt
of_compacted least to_floor None file output is = at_own least file output is
of_compacted least to_floor (Some floor) file output is =
    ⊎_elim (λ it. at_floor to_floor floor file output it) (λ own. at_own least file output own.1) is

pub of_itself : EachIsItsOwnCompaction → EachSaysItsOwnCompaction
of_itself itself says =
    record { whole = says; left = says; said_before = refl; said_now = refl; records = itself (floored says); next = refl }

one_said : (s : Outcome) (a b : Said) → s ≡ Ok a → s ≡ Ok b → a ≡ b
one_said s a b p q = cc

pub of_across : CompactionsCompose → SaidCompactionsCompose
of_across compose first next last a b =
    let same : b.whole ≡ a.left = one_said next b.whole a.left b.said_before a.said_now in
    record {
      whole = a.whole;
      left = b.left;
      said_before = a.said_before;
      said_now = b.said_now;
      records = compose (floored b.left) (floored a.left) (floored a.whole)
          (subst (λ (l : Said). IsCompactionOf (floored b.left) (floored l)) same b.records) a.records;
      next = b.next ∙ ap (λ (l : Said). next_of l.floor l.reads) same ∙ a.next;
    }

abbrev next_from : ℕ → List Read → ℕ
next_from n read = fold (λ next r. max next (suc (offset_in r))) n read

next_from-max : (floor n : ℕ) (more : List Read) → max floor (next_from n more) ≡ next_from (max floor n) more
next_from-max floor n [] = refl
next_from-max floor n (r ∷ more) =
    next_from-max floor (max n (suc (offset_in r))) more
    ∙ let same : max floor (max n (suc (offset_in r)))
    ≡ max (max floor n) (suc (offset_in r)) = omega arith in ap (λ (k : ℕ). next_from k more) same

next_behind : (floor : ℕ) (read more : List Read) → next_of floor (read ++ more) ≡ next_from (next_of floor read) more
next_behind floor read more =
    ap (λ (n : ℕ). max floor n) (fold-append (λ next r. max next (suc (offset_in r))) 0 read more)
    ∙ next_from-max floor (next_after read) more

module _ (total : IsTotalOrder record_cmp)
    (apart : IsAntisymmetric record_cmp) (keys : IsTotalOrder key_cmp) (keys_apart : IsAntisymmetric key_cmp)
    (adds : (read : List Read) (batch : List Record) → records_in (read ++ batch_reads batch) ≡ records_in read ++ batch) where
  both : (xs ys : List Record) → from_list {R = record_cmp} (xs ++ ys) ≡ union (from_list xs) (from_list ys)
  both xs ys =
      same_set total apart (from_list (xs ++ ys)) (union (from_list xs) (from_list ys))
      (λ q. contains-from_list total (xs ++ ys) q
      ∙ list_any-append (eq_by_cmp record_cmp q) xs ys
      ∙ ap₂ (λ (a b : Bool). a || b) (sym (contains-from_list total xs q)) (sym (contains-from_list total ys q))
      ∙ sym (contains-union total (from_list xs) (from_list ys) q))

  with_its_batch : (read : List Read) (batch : List Record) → union (set_of read) (from_list batch) ≡ set_of (read ++ batch_reads batch)
  with_its_batch read batch = sym (both (records_in read) batch) ∙ ap (λ (l : List Record). from_list l) (sym (adds read batch))

  -- a batch whose records are all from the floor on
  from_floor : (floor : ℕ) (batch : List Record) → All (λ r. floor ≤ r.offset) batch
      → (r : Record) → list_any (eq_by_cmp record_cmp r) batch ≡ true → floor ≤ r.offset
  from_floor floor [] all r is = absurd (false≢true is)
  from_floor floor (q ∷ batch) all r is =
      ⊎_elim
      (λ here.
      subst (λ (p : Record). floor ≤ p.offset) (sym (same_record total apart keys keys_apart r q here))
      (All-head (λ r. floor ≤ r.offset) q batch all))
      (λ later. from_floor floor batch (All-tail (λ r. floor ≤ r.offset) q batch all) r later)
      (or_cases _ _ is)

  said_from : (batch : List Record) (now : Outcome) (left : Said) → now ≡ Ok left
      → IsFromFloor batch now → All (λ r. left.floor ≤ r.offset) batch
  said_from batch now left is from = let at : IsFromFloor batch (Ok left) = rw is at from in at

  pub of_batches : LaterRecordsMayJoin → BatchesFollowCompactions
  of_batches join batch before now is from =
      let add : Said → Said = λ says. record says { reads = says.reads ++ batch_reads batch } in
      let above : (r : Record) → contains (from_list {R = record_cmp} batch) r ≡ true → is.left.floor ≤ r.offset =
      λ r there.
      from_floor is.left.floor batch (said_from batch now is.left is.said_now from) r
      (sym (contains-from_list total batch r) ∙ there) in
      record {
        whole = add is.whole;
        left = add is.left;
        said_before = ap (λ (s : Outcome). with_batch batch s) is.said_before;
        said_now = ap (λ (s : Outcome). with_batch batch s) is.said_now;
        records =
            subst₂ (λ (c r : Records).
            IsCompactionOf (record { records = c; floor = is.left.floor }) (record { records = r; floor = is.whole.floor }))
            (with_its_batch is.left.reads batch) (with_its_batch is.whole.reads batch)
            (join (floored is.left) (floored is.whole) (from_list batch) above is.records);
        next = next_behind is.left.floor is.left.reads (batch_reads batch)
            ∙ ap (λ (n : ℕ). next_from n (batch_reads batch)) is.next
            ∙ sym (next_behind is.whole.floor is.whole.reads (batch_reads batch));
      }
