-- The mark that a log lacks covers each id which its records name.
use Rattle.std.proofs.Common.{◌≡◌, ◌≤◌, ◌<◌, ℕ, Bool, true, false, cond, ◌&&◌, ◌||◌, List, [], ◌∷◌, ◌++◌}
use Rattle.std.proofs.Common.{Result, Some, option_and_then, unwrap_or, refl, sym, ap, subst, ◌∙◌, arith, append-nil}
use Rattle.std.proofs.lemmas.Bool.{false≢true, or_parts}
use Rattle.std.proofs.lemmas.Bool.Decides.{nat_tests}
use Rattle.std.proofs.lemmas.Cmp.{tied_itself}
use Rattle.std.proofs.lemmas.List.Elements.{All-cons, All-nil}
use Rattle.std.proofs.lemmas.List.Folds.{list_any-append}
use Rattle.std.specs.Cmp.{IsTotalOrder}
use Rattle.std.specs.FinSet.{IsAntisymmetric, contains, contains-from_list, from_list}
use Rattle.std.specs.List.{All, list_any}
use Rattle.std.specs.Ordering.{eq_by_cmp, is_eq, is_le}
use Rattle.std.specs.Result.{result_unwrap_or}
use Rattle.reg_compaction.specs.Lacking.{GreatestNamedIsGreatest, greatest_named, has_mark, is_mark_key, mark_at, named_id, unmarked_id}
use Rattle.reg_leader.specs.reg_fold.IdMark.{id_mark, id_marked_in, id_marked_of, last_id}
use Rattle.reg_leader.specs.reg_set.Join.{LastIsGreatest, LastOfLastRecords}
use Rattle.reg_leader.specs.reg_set.LastRecords.{last, last_records}
use Rattle.reg_leader.specs.reg_set.RecordOrder.{age_cmp, record_cmp}
use Rattle.reg_leader.specs.reg_set.Records.{Records}
use Rattle.reg_leader.proofs.Below.{ValuesReadBack}
use Rattle.reg_leader.proofs.Joined.{in_all}
use Rattle.reg_journal.specs.Lines.{Said, batch_reads}
use Rattle.reg_records.specs.Log.{next_of, records_in}
use Rattle.reg_records.specs.Written.{IsVersionOrId}
use Rattle.reg_records.specs.declared.key.Key.TheVariants as keys
use Rattle.reg_records.specs.declared.log.Log.{Log}
use Rattle.reg_records.specs.declared.log.LogFault.{LogFault}
use Rattle.reg_records.specs.declared.record.Read.{Read}
use Rattle.reg_records.specs.declared.record.Record.{Record}
use Rattle.reg_records.specs.declared.value.Value.TheVariants as values
use Rattle.reg_file_keep.specs.Marked.{IsLogSaid, MarkCovers, lacked, lacked_by, marked, names_above, takes_mark}

-- a record behind others without a mark is the only one of its key
one_mark : (mark : Record) (rs : List Record) → has_mark rs ≡ false → All (λ q. q.key ≡ keys.IdMark → q ≡ mark) (rs ++ mark ∷ [])
one_mark mark [] none =
    All-cons (λ (q : Record). q.key ≡ keys.IdMark → q ≡ mark) mark [] (λ _. refl) (All-nil (λ (q : Record). q.key ≡ keys.IdMark → q ≡ mark))
one_mark mark (r ∷ rs) none =
    let parts = or_parts (is_mark_key r.key) (has_mark rs) none in
    All-cons (λ (q : Record). q.key ≡ keys.IdMark → q ≡ mark) r (rs ++ mark ∷ [])
    (λ is. absurd (false≢true (sym parts.0 ∙ ap is_mark_key is))) (one_mark mark rs parts.1)

or_right : (a b : Bool) → b ≡ true → (a || b) ≡ true
or_right true b is = refl
or_right false b is = is

module _ (order : IsTotalOrder record_cmp) (apart : IsAntisymmetric record_cmp) (ages : IsTotalOrder age_cmp) (greatest : LastIsGreatest)
    (of_lasts : LastOfLastRecords) (again : ValuesReadBack) where
  module _ (rs : List Record) (offset id : ℕ) (fits : IsVersionOrId id) (none : has_mark rs ≡ false) where
    abbrev mark : Record
    mark = mark_at offset id

    abbrev all : Records
    all = from_list (rs ++ mark ∷ [])

    mark_is_in : contains all mark ≡ true
    mark_is_in =
        contains-from_list order (rs ++ mark ∷ []) mark
        ∙ list_any-append (eq_by_cmp record_cmp mark) rs (mark ∷ [])
        ∙ or_right (list_any (eq_by_cmp record_cmp mark) rs) (list_any (eq_by_cmp record_cmp mark) (mark ∷ []))
        (ap (λ o. is_eq o || false) (tied_itself order mark))

    greatest_of_all : (q : Record) → contains all q ≡ true → q.key ≡ keys.IdMark → is_le (age_cmp q mark) ≡ true
    greatest_of_all q there key =
        let same = in_all order apart (λ q. q.key ≡ keys.IdMark → q ≡ mark) (rs ++ mark ∷ []) q (one_mark mark rs none)
        (sym (contains-from_list order (rs ++ mark ∷ []) q) ∙ there) key in
        ap (λ q. is_le (age_cmp q mark)) same ∙ ap is_le (tied_itself ages mark)

    last_mark : last all keys.IdMark ≡ Some mark
    last_mark = (greatest all keys.IdMark mark).1 (record { is_in_set = mark_is_in; is_of_key = refl; is_greatest = greatest_of_all })

    mark_after : id_mark (last_records all) ≡ id
    unfolding id_mark id_marked_of
    mark_after =
        ap (λ o. unwrap_or (option_and_then id_marked_of o) 0) (of_lasts all keys.IdMark ∙ last_mark)
        ∙ ap (λ o. unwrap_or (option_and_then id_marked_in o) 0) (again offset keys.IdMark (values.IdMark id) (refl, fits))

  module _ (named : GreatestNamedIsGreatest) (rs : List Record) (next : ℕ) (none : has_mark rs ≡ false) (takes : takes_mark rs next ≡ true) where
    unmarked : unmarked_id rs ≡ greatest_named rs
    unmarked = ap (λ (b : Bool). cond b 0 (greatest_named rs)) none

    covered : (after : List Record) → unmarked_id rs ≤ last_id (last_records (from_list after))
        → All (λ r. named_id r ≤ last_id (last_records (from_list after))) rs
    covered after up k d lt = omega (arith, (named rs).covers k d lt, unmarked, up)

    lacked_if : (b : Bool) → names_above rs ≡ b → lacked rs next ≡ cond b (mark_at next (unmarked_id rs) ∷ []) []
    lacked_if true is =
        ap (λ (b : Bool). cond (b && takes_mark rs next) (mark_at next (unmarked_id rs) ∷ []) []) is
        ∙ ap (λ (b : Bool). cond b (mark_at next (unmarked_id rs) ∷ []) []) takes
    lacked_if false is = ap (λ (b : Bool). cond (b && takes_mark rs next) (mark_at next (unmarked_id rs) ∷ []) []) is

    up_to_mark : names_above rs ≡ true → unmarked_id rs ≤ last_id (last_records (from_list (rs ++ mark_at next (unmarked_id rs) ∷ [])))
    up_to_mark above =
        let some : last_id (last_records (from_list rs)) < unmarked_id rs = grind (arith, nat_tests) in
        let fits : IsVersionOrId (unmarked_id rs) = (omega (arith, some), omega (arith, unmarked, (named rs).within)) in
        omega (arith, mark_after rs next (unmarked_id rs) fits none)

    up_to_last : names_above rs ≡ false → unmarked_id rs ≤ last_id (last_records (from_list rs))
    up_to_last above = grind (arith, nat_tests)

    of_case : (b : Bool) → names_above rs ≡ b → All (λ r. named_id r ≤ last_id (last_records (from_list (rs ++ lacked rs next)))) rs
    of_case true is =
        subst (λ (m : List Record). All (λ r. named_id r ≤ last_id (last_records (from_list (rs ++ m)))) rs) (sym (lacked_if true is))
        (covered (rs ++ mark_at next (unmarked_id rs) ∷ []) (up_to_mark is))
    of_case false is =
        subst (λ (m : List Record). All (λ r. named_id r ≤ last_id (last_records (from_list (rs ++ m)))) rs) (sym (lacked_if false is))
        (subst (λ (l : List Record). All (λ r. named_id r ≤ last_id (last_records (from_list l))) rs) (sym (append-nil rs))
        (covered rs (up_to_last is)))

    pub all_covered : All (λ r. named_id r ≤ last_id (last_records (from_list (rs ++ lacked rs next)))) rs
    all_covered = of_case (names_above rs) refl

  pub marks_cover : GreatestNamedIsGreatest
      → ((read : List Read) (batch : List Record) → records_in (read ++ batch_reads batch) ≡ records_in read ++ batch)
      → (outcome : Result Said (ℕ × LogFault)) (log : Log) → IsLogSaid (marked outcome) log → MarkCovers outcome log
  marks_cover named joins outcome log said says is none takes =
      let rs : List Record = records_in says.reads in
      let next = next_of says.floor says.reads in
      let same = ap (λ (o : Result Said (ℕ × LogFault)). result_unwrap_or o says) (sym said.1 ∙ ap marked is) in
      let records : log.records.items ≡ rs ++ lacked rs next =
      said.2.records ∙ ap (λ (s : Said). records_in s.reads) same ∙ joins says.reads (lacked_by says) in
      subst (λ (l : List Record). All (λ r. named_id r ≤ last_id (last_records (from_list l))) rs) (sym records)
      (all_covered named rs next none takes)
