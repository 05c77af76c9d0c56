use Rattle.std.proofs.Common.{◌||◌, nat_lt, rules}
use Rattle.std.proofs.lemmas.Fn.{always_returns_same}
use Rattle.std.specs.Ordering.{is_eq}
use Rattle.reg_records.specs.declared.record.Record.{Record}
use Rattle.reg_set.specs.RecordOrder.{key_cmp}
use Rattle.reg_set.proofs.turns.has_one_key_at_each.Goals as goal

pub returns : goal.returns
returns c =
    let apart = λ (a b : Record). nat_lt a.offset b.offset || is_eq (key_cmp a.key b.key) in
    c.is_sorted_by.ensures.cases apart (always_returns_same _ _ _ (λ a r f k. search rules))
