use Rattle.std.proofs.Common.{rules}
use Rattle.std.proofs.lemmas.List.Sorted.{answers_always, ranks_by}
use Rattle.std.specs.Ordering.{is_lt}
use Rattle.reg_set.specs.RecordOrder.{record_cmp}
use Rattle.reg_set.proofs.Orders.{record_cmp-total}
use Rattle.reg_set.proofs.turns.put_by_text.Goals as goal

pub returns-clause-moved : goal.returns-clause-moved
returns-clause-moved c = c.sort_unstable_by.ensures.permutation

pub returns-clause-sorted : goal.returns-clause-sorted
returns-clause-sorted c =
    c.sort_unstable_by.ensures.sorted (λ x y. is_lt (record_cmp x y)) (ranks_by record_cmp-total (λ r. r))
    (answers_always _ _ _ (λ f a r g k. search rules))
