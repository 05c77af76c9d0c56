use Rattle.std.proofs.Common.{◌≡◌, ◌||◌, Bool, List, nat_lt, true, sym, subst}
use Rattle.std.proofs.lemmas.List.Sorted.{IsPermutation-trans}
use Rattle.std.specs.List.{IsAllAdjacentAnswer}
use Rattle.std.specs.List.Sorted.{IsPermutation, IsSortedBy}
use Rattle.std.specs.Ordering.{is_eq, is_lt}
use Rattle.reg_records.specs.declared.record.Record.{Record}
use Rattle.reg_set.specs.RecordOrder.{key_cmp, record_cmp}
use Rattle.reg_set.proofs.Distinct.{sorted-in_order, sorted_by_age}
use Rattle.reg_set.proofs.turns.put_in_order.Goals as goal

abbrev answers : Record → Record → Bool → Type 0
answers a b answer = answer ≡ (nat_lt a.offset b.offset || is_eq (key_cmp a.key b.key))

pub returns-then-has_one_key_at_each-clause-in_order : goal.returns-then-has_one_key_at_each-clause-in_order
returns-then-has_one_key_at_each-clause-in_order c =
    let by_age = c.put_by_age.new.records.items in
    let told : IsAllAdjacentAnswer answers by_age c.has_one_key_at_each.result =
    subst (λ (rs : List Record). IsAllAdjacentAnswer answers rs c.has_one_key_at_each.result) c.deref.ensures.value
    c.has_one_key_at_each.ensures in
    let apart : IsAllAdjacentAnswer answers by_age true = subst (IsAllAdjacentAnswer answers by_age) c.if-has_one_key_at_each.true told in
    sorted-in_order c.args.records.items by_age c.requires c.put_by_age.ensures.moved (
    sorted_by_age by_age c.put_by_age.ensures.sorted apart)

pub returns-clause-moved : goal.returns-clause-moved
returns-clause-moved c =
    let given = c.args.records.items in
    let by_text = c.put_by_text.new.written.items in
    subst (λ (rs : List Record). IsPermutation given rs) (sym c.in_ok-found.ensures) (
    IsPermutation-trans given c.put_by_age.new.records.items by_text c.put_by_age.ensures.moved (
    subst (λ (rs : List Record). IsPermutation rs by_text) c.in_ok-written.ensures c.put_by_text.ensures.moved))

pub returns-clause-in_order : goal.returns-clause-in_order
returns-clause-in_order c =
    sorted-in_order c.args.records.items c.in_ok-found.found.items c.requires (returns-clause-moved c) (
    subst (λ (rs : List Record). IsSortedBy (λ a b. is_lt (record_cmp a b)) rs) (sym c.in_ok-found.ensures) c.put_by_text.ensures.sorted)
