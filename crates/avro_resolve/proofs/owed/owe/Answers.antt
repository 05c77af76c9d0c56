use Rattle.std.proofs.Common.{◌∙◌, ap, sym}
use Rattle.avro_resolve.specs.Owed.{pairs_of}
use Rattle.avro_resolve.specs.Row.{outcome_of}
use Rattle.avro_resolve.proofs.Owing.{pairs_of_branches}
use Rattle.avro_resolve.proofs.Rows.{owed_in}
use Rattle.avro_resolve.proofs.owed.owe.Goals as goal

pub returns-in_ok-owe_branches-in-WriterBranches-clause-owed :
    goal.returns-in_ok-owe_branches-in-WriterBranches-clause-owed
returns-in_ok-owe_branches-in-WriterBranches-clause-owed c = λ none.
    c.in_ok-owe_branches-in-WriterBranches.ensures
    ∙ sym (pairs_of_branches c.in-WriterBranches.i 0 c.in-WriterBranches.branches.now)
    ∙ ap (λ row. pairs_of (owed_in (outcome_of row))) (sym c.in-WriterBranches.is)
