use Rattle.std.proofs.Common.{rules}
use Rattle.std.proofs.lemmas.Fn.{always_returns_same}
use Rattle.named_list.specs.Index.{are_apart}
use Rattle.named_list.proofs.index.do_differ.Goals as goal

pub returns : goal.returns
returns c = c.is_sorted_by.ensures.cases are_apart (always_returns_same _ _ _ (λ a r f k. search rules))
