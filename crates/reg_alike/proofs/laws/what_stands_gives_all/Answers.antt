use Rattle.std.proofs.Common.{sym, subst}
use Rattle.reg_leader.specs.reg_set.LastRecords.{last_records}
use Rattle.reg_floored.specs.Compaction.{standing}
use Rattle.reg_leader.specs.reg_fold.GiveAlike.{GiveAlike}
use Rattle.reg_alike.proofs.laws.what_stands_gives_all.Goals as goal

pub returns : goal.returns
returns c R S same =
    let laws = c.giving_alike_is_an_equivalence.ensures in
    let nothing = c.nulls_give_nothing.ensures in
    laws.across (last_records R) (standing R) (last_records S) (nothing R)
    (subst (λ ss. GiveAlike ss (last_records S)) (sym same) (laws.back (last_records S) (standing S) (nothing S)))
