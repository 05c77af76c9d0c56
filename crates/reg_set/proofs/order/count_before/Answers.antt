use Rattle.std.proofs.Common.{◌≡◌, ◌+◌, ◌-◌, ◌/◌, ◌<◌, true, false, length, take, ap, sym, ◌∙◌, arith, rules}
use Rattle.std.specs.List.{list_all}
use Rattle.std.specs.Ordering.{is_lt}
use Rattle.reg_set.specs.RecordOrder.{age_cmp, record_cmp}
use Rattle.reg_set.proofs.Places.{by_age, front_is_before, none_before_from}
use Rattle.reg_set.proofs.order.count_before.Goals as goal

pub returns-then-eq-clause-before : goal.returns-then-eq-clause-before
returns-then-eq-clause-before c =
    let r = c.args.given.now in
    let rs = c.args.records.now in
    let found = c.in-Some.last.now in
    let is_less : is_lt (age_cmp found r) ≡ true = search rules in
    let item = c.in-Some.ensures.item in
    let n = length rs - 1 in
    let some : 0 < length rs = item.3.0 in
    let within : n < length rs = omega arith in
    let whole : n + 1 ≡ length rs = omega arith in
    ap (λ k. list_all (λ q. is_lt (record_cmp q r)) (take k rs)) (sym whole)
    ∙ front_is_before r rs n found c.requires.in_order within (
    ap (λ q. is_lt (record_cmp q r)) (sym item.1) ∙ ap is_lt (sym (by_age r rs n found c.requires.of_key within item.1)) ∙ is_less)

pub loop-low-preserved-then-eq-2 : goal.loop-low-preserved-then-eq-2
loop-low-preserved-then-eq-2 c =
    let r = c.args.given.now in
    let found = c.index-records-middle.result in
    let middle = c.loop-low.low + (c.loop-low.high - c.loop-low.low) / 2 in
    let is_less : is_lt (age_cmp found r) ≡ true = search rules in
    let below : middle < c.loop-low.high = omega arith in
    let within : middle < length c.args.records.now = omega arith in (
      omega arith,
      c.loop-low.invariant.1,
      front_is_before r c.args.records.now middle found c.requires.in_order within (
          ap (λ q. is_lt (record_cmp q r)) (sym c.index-records-middle.is)
          ∙ ap is_lt (sym (by_age r c.args.records.now middle found c.requires.of_key within c.index-records-middle.is))
          ∙ is_less),
      c.loop-low.invariant.3,
    )

pub loop-low-preserved : goal.loop-low-preserved
loop-low-preserved c =
    let r = c.args.given.now in
    let found = c.index-records-middle.result in
    let middle = c.loop-low.low + (c.loop-low.high - c.loop-low.low) / 2 in
    let not_less : is_lt (age_cmp found r) ≡ false = search rules in
    let below : middle < c.loop-low.high = omega arith in
    let within : middle < length c.args.records.now = omega arith in (
      omega arith,
      omega arith,
      c.loop-low.invariant.2,
      none_before_from r c.args.records.now middle found c.requires.in_order within (
          ap (λ q. is_lt (record_cmp q r)) (sym c.index-records-middle.is)
          ∙ ap is_lt (sym (by_age r c.args.records.now middle found c.requires.of_key within c.index-records-middle.is))
          ∙ not_less),
    )
