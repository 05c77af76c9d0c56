use Rattle.std.proofs.Common.{rules, of_calls}
use Rattle.std.proofs.lemmas.List.Sorted.{IsNonDecreasingBy-from_sort_by_key}
use Rattle.reg_shared.proofs.Rising.{rising_sorted}
use Rattle.reg_shared.proofs.sought.put_by_offset.Goals as goal

pub returns-clause-moved : goal.returns-clause-moved
returns-clause-moved c = c.sort_unstable_by_key.ensures.permutation

pub returns-clause-rising : goal.returns-clause-rising
returns-clause-rising c =
    rising_sorted _ (IsNonDecreasingBy-from_sort_by_key (λ r. r.offset) _ c.sort_unstable_by_key.ensures.sorted
    (λ a r f k. search (rules, of_calls)))
