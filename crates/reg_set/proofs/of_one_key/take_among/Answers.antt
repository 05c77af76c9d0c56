use Rattle.std.proofs.Common.{◌≡◌, ◌<◌, ℕ, List, length, take, drop, true, false, sym, ap, ◌∙◌, arith}
use Rattle.std.proofs.lemmas.Bool.{false≢true}
use Rattle.std.specs.List.{insert, list_any, list_all}
use Rattle.std.specs.Ordering.{eq_by_cmp, is_lt}
use Rattle.reg_records.specs.declared.record.Record.{Record}
use Rattle.reg_set.specs.RecordOrder.{record_cmp}
use Rattle.reg_set.specs.Records.{is_in_order, placed}
use Rattle.reg_set.proofs.Indexed.{record_copy}
use Rattle.reg_set.proofs.Places.{insert-placed, placed-there, some_from, not_all_before}
use Rattle.reg_set.proofs.of_one_key.take_among.Goals as goal

pub returns-then-stands_at-clause-added : goal.returns-then-stands_at-clause-added
returns-then-stands_at-clause-added c =
    let r = c.args.given.now in
    let rs = c.args.records.now.items in
    sym (
    placed-there r rs 0 c.requires.in_order (
    ap (list_any (eq_by_cmp record_cmp r)) (sym c.deref-seen.ensures.value) ∙ sym c.stands_at.ensures ∙ c.if-stands_at.true))

pub returns-then-stands_at-clause-fresh : goal.returns-then-stands_at-clause-fresh
returns-then-stands_at-clause-fresh c =
    let r = c.args.given.now in
    let rs = c.args.records.now.items in
    let there : list_any (eq_by_cmp record_cmp r) rs ≡ true =
    ap (list_any (eq_by_cmp record_cmp r)) (sym c.deref-seen.ensures.value) ∙ sym c.stands_at.ensures ∙ c.if-stands_at.true in
    (λ e. absurd (cc), λ all. absurd (not_all_before r rs there all))

-- where it is inserted
at_its_place : (r q : Record) (rs seen : List Record) (n : ℕ) → seen ≡ rs → q ≡ r → is_in_order rs ≡ true
    → list_all (λ p. is_lt (record_cmp p r)) (take n seen) ≡ true → list_any (λ p. is_lt (record_cmp p r)) (drop n seen) ≡ false
    → list_any (eq_by_cmp record_cmp r) seen ≡ false → insert rs n q ≡ placed r rs
at_its_place r q rs seen n same copy ordered before not_before apart =
    ap (insert rs n) copy
    ∙ insert-placed r rs n ordered (ap (λ xs. list_all (λ p. is_lt (record_cmp p r)) (take n xs)) (sym same) ∙ before)
    (ap (λ xs. list_any (λ p. is_lt (record_cmp p r)) (drop n xs)) (sym same) ∙ not_before)
    (ap (list_any (eq_by_cmp record_cmp r)) (sym same) ∙ apart)

pub returns-then-is_last-clause-added : goal.returns-then-is_last-clause-added
returns-then-is_last-clause-added c =
    c.in_ok-insert.ensures.items
    ∙ at_its_place c.args.given.now _ c.args.records.now.items _ _ c.deref-seen.ensures.value
    (record_copy _ _ c.in_ok-clone.ensures.cases) c.requires.in_order c.count_before-place.ensures.before c.count_before-place.ensures.not_before
    (sym c.stands_at.ensures ∙ c.if-stands_at.false)

pub returns-clause-added : goal.returns-clause-added
returns-clause-added c =
    c.in_ok-insert.ensures.items
    ∙ at_its_place c.args.given.now _ c.args.records.now.items _ _ c.deref-seen.ensures.value
    (record_copy _ _ c.in_ok-clone.ensures.cases) c.requires.in_order c.count_before-place.ensures.before c.count_before-place.ensures.not_before
    (sym c.stands_at.ensures ∙ c.if-stands_at.false)

pub returns-clause-fresh : goal.returns-clause-fresh
returns-clause-fresh c =
    let r = c.args.given.now in
    let seen = c.deref-seen.result.now in
    let within : c.count_before-place.result < length seen = omega arith in
    let before = λ (p : Record). is_lt (record_cmp p r) in (
      λ e. absurd (cc),
      λ all.
          absurd (
          false≢true (
          sym c.count_before-place.ensures.not_before
          ∙ some_from before seen c.count_before-place.result (ap (list_all before) c.deref-seen.ensures.value ∙ all) within)),
    )
