-- The last records once a record comes whose offset is above all others.
use Rattle.std.proofs.Common.{◌≡◌, inl, inr, ℕ, suc, ◌<◌, ◌==◌, true, false, cond, ◌||◌, Some, None, refl, sym, ap, ◌∙◌, arith}
use Rattle.std.proofs.lemmas.Bool.{le-leb}
use Rattle.std.proofs.lemmas.Cmp.{tied_itself}
use Rattle.std.specs.Cmp.{Equal-is, IsTotalOrder}
use Rattle.std.specs.FinSet.{contains, insert, IsAntisymmetric, contains-insert}
use Rattle.std.specs.Ordering.{eq_by_cmp, is_eq, is_le, nat_cmp, ordering_then}
use Rattle.std.specs.declared.cmp.Ordering.TheVariants.{Less, Equal, Greater}
use Rattle.reg_alike.specs.reg_records.declared.key.Key.{Key}
use Rattle.reg_alike.specs.reg_records.declared.record.Record.{Record}
use Rattle.reg_alike.specs.reg_set.Join.{LastIsGreatest, LastOfLastRecords, NoLastIsNoRecord}
use Rattle.reg_alike.specs.reg_set.LastRecords.{last}
use Rattle.reg_alike.specs.reg_set.RecordOrder.{age_cmp, record_cmp, value_cmp}
use Rattle.reg_alike.specs.reg_set.Records.{Records}
use Rattle.reg_world.proofs.Bools.{either}

-- what is known of last records
pub record LastLaws : Type 0 where
  pub order : IsTotalOrder record_cmp
  pub apart : IsAntisymmetric record_cmp
  pub ages : IsTotalOrder age_cmp
  pub greatest : LastIsGreatest
  pub none : NoLastIsNoRecord
  pub lasts : LastOfLastRecords

-- each record stands at a smaller offset
abbrev pub IsAbove : Records → Record → Type 0
IsAbove log r = (q : Record) → contains log q ≡ true → q.offset < r.offset

less : (m n : ℕ) → m < n → nat_cmp m n ≡ Less
less m n h = ap (λ b. cond b Less (cond (m == n) Equal Greater)) (le-leb (suc m) n (omega arith))

older-le : (q r : Record) → q.offset < r.offset → is_le (age_cmp q r) ≡ true
unfolding age_cmp
older-le q r h = ap (λ o. is_le (ordering_then o (value_cmp q.value r.value))) (less q.offset r.offset h)

module _ (l : LastLaws) where
  pub equal : (q r : Record) → eq_by_cmp record_cmp q r ≡ true → q ≡ r
  equal q r h = l.apart q r ((Equal-is (record_cmp q r)).0 h)

  -- sets with the same records of a key have the same last one
  same_last : (R S : Records) (key : Key) → ((q : Record) → q.key ≡ key → contains R q ≡ contains S q) → last R key ≡ last S key
  same_last R S key alike =
      elim (last S key) as (λ o. last S key ≡ o → last R key ≡ o) [
        | None ↦ λ e. elim (last R key) as (λ o. last R key ≡ o → o ≡ None) [
          | None ↦ λ _. refl
          | Some y ↦ λ f.
              let g = (l.greatest R key y).0 f in
              absurd (l.none S y (sym (alike y g.is_of_key) ∙ g.is_in_set) (ap (last S) g.is_of_key ∙ e))
        ] refl
        | Some x ↦ λ e.
            let g = (l.greatest S key x).0 e in
            (l.greatest R key x).1 (record {
              is_in_set = alike x g.is_of_key ∙ g.is_in_set;
              is_of_key = g.is_of_key;
              is_greatest = λ q in_R k. g.is_greatest q (sym (alike q k) ∙ in_R) k;
            })
      ] refl

  -- the record is the last of its key
  pub top_last : (log : Records) (r : Record) → IsAbove log r → last (insert log r) r.key ≡ Some r
  top_last log r above = (l.greatest (insert log r) r.key r).1 (record {
    is_in_set = contains-insert l.order log r r ∙ ap (λ b. b || contains log r) (ap is_eq (tied_itself l.order r));
    is_of_key = refl;
    is_greatest = λ q in_new k. elim (either (eq_by_cmp record_cmp q r) (contains log q) (sym (contains-insert l.order log r q) ∙ in_new)) [
      | inl same ↦ ap (λ x. is_le (age_cmp x r)) (equal q r same) ∙ ap is_le (tied_itself l.ages r)
      | inr old ↦ older-le q r (above q old)
    ];
  })

  -- that of any other key is the one before
  pub other_last : (log : Records) (r : Record) (key : Key) → (r.key ≡ key → ⊥) → last (insert log r) key ≡ last log key
  other_last log r key other = same_last (insert log r) log key (λ q k. contains-insert l.order log r q ∙ (
      elim (eq_by_cmp record_cmp q r) as (λ b. eq_by_cmp record_cmp q r ≡ b → (b || contains log q) ≡ contains log q) [
        | true ↦ λ same. absurd (other (ap (λ (x : Record). x.key) (sym (equal q r same)) ∙ k))
        | false ↦ λ _. refl
      ] refl))
