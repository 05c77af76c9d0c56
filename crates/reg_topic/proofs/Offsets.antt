-- The offsets of a log stay below the next one.
use Rattle.std.proofs.Common.{◌≡◌, inl, inr, ℕ, suc, ◌+◌, ◌<◌, ◌≤◌, ◌==◌, Bool, true, false, List}
use Rattle.std.proofs.Common.{[], ◌∷◌, length, All, refl, sym, ap, ◌∙◌, arith, eqb-true}
use Rattle.std.proofs.lemmas.Bool.{false≢true}
use Rattle.std.proofs.lemmas.List.Elements.{All-head, All-tail}
use Rattle.std.specs.Cmp.{Equal-is, IsTotalOrder}
use Rattle.std.specs.FinSet.{contains, from_list, IsAntisymmetric, contains-from_list, contains-union}
use Rattle.std.specs.List.{list_any}
use Rattle.std.specs.Ordering.{eq_by_cmp}
use Rattle.reg_leader.specs.reg_records.declared.record.Record.{Record}
use Rattle.reg_leader.specs.reg_set.RecordOrder.{record_cmp}
use Rattle.reg_leader.specs.OneStep.{goes_on}
use Rattle.reg_leader.specs.GivenIds.{AreBelow}
use Rattle.reg_topic.specs.Topic.{after_batch, after_compaction}
use Rattle.reg_topic.specs.declared.published.Compaction.{Compaction}
use Rattle.reg_topic.specs.declared.topic.Topic.{Topic}
use Rattle.reg_topic.proofs.Bools.{both_true, either}

pub below_compaction : (b : Bool) (t : Topic) (c : Compaction) → AreBelow t.log t.next
    → AreBelow (after_compaction b t c).log (after_compaction b t c).next
below_compaction true t c h = h
below_compaction false t c h = h

module _ (order : IsTotalOrder record_cmp) (apart : IsAntisymmetric record_cmp) where
  pub equal : (r d : Record) → eq_by_cmp record_cmp r d ≡ true → r ≡ d
  equal r d h = apart r d ((Equal-is (record_cmp r d)).0 h)

  pub below_list : (next : ℕ) (rs : List Record) → All (λ r. r.offset < next) rs
      → (q : Record) → list_any (eq_by_cmp record_cmp q) rs ≡ true → q.offset < next
  below_list next [] all q any = absurd (false≢true any)
  below_list next (r ∷ rs) all q any =
      elim (either (eq_by_cmp record_cmp q r) (list_any (eq_by_cmp record_cmp q) rs) any) as (λ _. q.offset < next) [
        | inl e ↦
            let at = ap (λ (x : Record). x.offset) (equal q r e) in
            let here = All-head (λ x. x.offset < next) r rs all in
            omega (arith, at, here)
        | inr rest ↦ below_list next rs (All-tail (λ x. x.offset < next) r rs all) q rest
      ]

  pub from_first : (n : ℕ) (rs : List Record) (q : Record) → goes_on n rs ≡ true
      → list_any (eq_by_cmp record_cmp q) rs ≡ true → n ≤ q.offset
  from_first n [] q on any = absurd (false≢true any)
  from_first n (r ∷ rs) q on any =
      let parts = both_true (r.offset == n) (goes_on (suc n) rs) on in
      elim (either (eq_by_cmp record_cmp q r) (list_any (eq_by_cmp record_cmp q) rs) any) as (λ _. n ≤ q.offset) [
        | inl e ↦ let at = ap (λ (x : Record). x.offset) (equal q r e) ∙ eqb-true r.offset n parts.0 in omega (arith, at)
        | inr rest ↦ let h = from_first (suc n) rs q parts.1 rest in omega (arith, h)
      ]

  in_batch : (n : ℕ) (rs : List Record) (q : Record) → goes_on n rs ≡ true
      → list_any (eq_by_cmp record_cmp q) rs ≡ true → q.offset < n + length rs
  in_batch n [] q on any = absurd (false≢true any)
  in_batch n (r ∷ rs) q on any =
      let parts = both_true (r.offset == n) (goes_on (suc n) rs) on in
      elim (either (eq_by_cmp record_cmp q r) (list_any (eq_by_cmp record_cmp q) rs) any) as (λ _. q.offset < n + length (r ∷ rs)) [
        | inl e ↦ let at = ap (λ (x : Record). x.offset) (equal q r e) ∙ eqb-true r.offset n parts.0 in omega (arith, at)
        | inr rest ↦ let h = in_batch (suc n) rs q parts.1 rest in omega (arith, h)
      ]

  -- where a batch is published, it goes on
  pub below_batch : (b : Bool) (t : Topic) (batch : List Record) → (b ≡ true → goes_on t.next batch ≡ true)
      → AreBelow t.log t.next → AreBelow (after_batch b t batch).log (after_batch b t batch).next
  below_batch false t batch on below q h = below q h
  below_batch true t batch on below q h =
      elim (
      either (contains t.log q) (contains (from_list {R = record_cmp} batch) q)
      (sym (contains-union order t.log (from_list batch) q) ∙ h))
      as (λ _. q.offset < t.next + length batch) [
        | inl old ↦ let k = below q old in omega (arith, k)
        | inr new ↦ in_batch t.next batch q (on refl) (sym (contains-from_list order batch q) ∙ new)
      ]
