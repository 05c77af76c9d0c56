use Rattle.std.proofs.Common.{ap, ◌∙◌}
use Rattle.std.specs.FinSet.{union}
use Rattle.reg_set.specs.LastRecords.{last}
use Rattle.reg_set.proofs.Unions.{last_of_union}
use Rattle.reg_set.proofs.record_set.RecordSet.merge.Goals as goal

pub returns-clause-merged : goal.returns-clause-merged
returns-clause-merged c =
    c.in_ok-add_all.ensures ∙ (λ i. union (c.in_ok-both.ensures.cases i) (c.other.view_is i))

pub returns-clause-lasts : goal.returns-clause-lasts
returns-clause-lasts c = λ key. ap (λ s. last s key) (returns-clause-merged c) ∙ last_of_union c.args.self.now c.args.other.now key
