use Rattle.std.proofs.Common.{refl}
use Rattle.reg_fold.proofs.Keeping.{IsKept-empty}
use Rattle.reg_fold.proofs.index.Index.new.Goals as goal

pub returns-clause-kept : goal.returns-clause-kept
returns-clause-kept c =
    IsKept-empty c.records_are_ordered.ensures.all _ c.new-last.ensures c.entries_are_of_lasts.ensures
    c.new.ensures c.new-2.ensures.empty c.new-3.ensures c.new-4.ensures c.new-5.ensures refl
