use Rattle.std.proofs.Common.{rules}
use Rattle.std.specs.BTreeMap.{is_at}
use Rattle.reg_set.specs.RecordOrder.{key_cmp}
use Rattle.reg_set.proofs.Listed.{left-keys}
use Rattle.reg_set.proofs.by_key.leave_lasts.Goals as goal

pub returns-clause-left : goal.returns-clause-left
returns-clause-left c = λ key. left-keys _ (λ g k v b w h t. search rules) (is_at (key_cmp key)) _ _ _ c.retain.ensures.filtered
