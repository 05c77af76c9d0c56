-- What is left without one of the last records.
use Rattle.std.proofs.Common.{◌≡◌, true, false, cond, not, ◌⊎◌, inl, inr, Some, None, IsSome, refl, sym, ap, subst, ◌∙◌, rules}
use Rattle.std.proofs.lemmas.Bool.{false≢true}
use Rattle.std.proofs.lemmas.Cmp.{tied_itself}
use Rattle.std.specs.FinSet.{contains, contains-remove, remove}
use Rattle.std.specs.Ordering.{eq_by_cmp, is_eq}
use Rattle.reg_records.specs.declared.record.Record.{Record}
use Rattle.reg_set.specs.LastRecords.{LosesAtMost, last, last_records, with_last}
use Rattle.reg_set.specs.RecordOrder.{key_cmp, record_cmp}
use Rattle.reg_set.specs.Records.{Records}
use Rattle.reg_set.proofs.InOrder.{both, first_of, second_of}
use Rattle.reg_set.proofs.Lasts.{equal}
use Rattle.reg_set.proofs.OneEach.{apart_in_others, from_others, in_others, last-with_last, last_there, others}
use Rattle.reg_set.proofs.Orders.{key_cmp-ties, record_cmp-total, record_cmp-ties}
use Rattle.reg_set.proofs.Unions.{one_set}

module _ (S : Records) (r : Record) where
  in_removed : (q : Record) → contains S q ≡ true → (q ≡ r → ⊥) → contains (remove S r) q ≡ true
  in_removed q h apart =
      let other : not (eq_by_cmp record_cmp q r) ≡ true =
      elim (eq_by_cmp record_cmp q r)
      as (λ b. eq_by_cmp record_cmp q r ≡ b
      → not b ≡ true) [ true ↦ λ e. absurd (apart (record_cmp-ties q r (equal _ e))) | false ↦ λ _. refl ] refl in
      contains-remove record_cmp-total S r q ∙ both other h

  from_removed : (q : Record) → contains (remove S r) q ≡ true → contains S q ≡ true
  from_removed q h = second_of (not (eq_by_cmp record_cmp q r)) _ (sym (contains-remove record_cmp-total S r q) ∙ h)

  apart_in_removed : (q : Record) → contains (remove S r) q ≡ true → q ≡ r → ⊥
  apart_in_removed q h same =
      let tie : eq_by_cmp record_cmp q r ≡ true = ap (λ x. is_eq (record_cmp q x)) (sym same) ∙ ap is_eq (tied_itself record_cmp-total q) in
      false≢true (ap not (sym tie) ∙ first_of (not (eq_by_cmp record_cmp q r)) _ (sym (contains-remove record_cmp-total S r q) ∙ h))

  -- a record that isn't there may be removed
  pub nothing_removed : contains S r ≡ false → S ≡ remove S r
  nothing_removed gone =
      one_set S (remove S r) (λ q h. in_removed q h (λ same. false≢true (sym gone ∙ ap (contains S) (sym same) ∙ h))) from_removed

  module _ (compact : last_records S ≡ S) (there : contains S r ≡ true) where
    its_last : last S r.key ≡ Some r
    its_last = last_there S compact r there

    only_one : (q : Record) → contains S q ≡ true → q.key ≡ r.key → q ≡ r
    only_one q h same =
        let one : Some q ≡ Some r = sym (last_there S compact q h) ∙ ap (last S) same ∙ its_last in
        cc

    -- of its key there is no other
    pub one_removed : with_last S r.key None ≡ remove S r
    unfolding with_last
    one_removed =
        one_set (others S r.key) (remove S r)
        (λ q h. in_removed q (from_others S r.key q h) (λ same. apart_in_others S r.key q h (ap (λ x. x.key) same)))
        (λ q h. in_others S r.key q (from_removed q h) (λ same. apart_in_removed q h (only_one q (from_removed q h) same)))

    pub one_lost : LosesAtMost r S (with_last S r.key None)
    one_lost key =
        let after = last-with_last S r.key None tt key in
        elim (is_eq (key_cmp r.key key)) as (λ b. is_eq (key_cmp r.key key) ≡ b
        → (last (with_last S r.key None) key ≡ last S key) ⊎ ((last S key ≡ Some r) × (last (with_last S r.key None) key ≡ None))) [
          | true ↦ λ e.
              inr (ap (last S) (sym (key_cmp-ties r.key key (equal _ e))) ∙ its_last, after ∙ ap (λ b. cond b None (last S key)) e)
          | false ↦ λ e. inl (after ∙ ap (λ b. cond b None (last S key)) e)
        ] refl

    pub is_there : IsSome (last S r.key)
    is_there = subst IsSome (sym its_last) (search rules)
