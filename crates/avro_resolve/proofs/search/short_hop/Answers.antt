use Rattle.std.proofs.Common.{◌∙◌, ◌<◌, ap, sym, subst, length}
use Rattle.avro_resolve.specs.Row.{outcome_of}
use Rattle.avro_resolve.proofs.Rows.{owed_in}
use Rattle.avro_resolve.proofs.Hops.{hop_in, hop_of_branch}
use Rattle.avro_resolve.proofs.search.short_hop.Goals as goal

pub returns-in-WriterBranches : goal.returns-in-WriterBranches
returns-in-WriterBranches c =
    let owed = ap owed_in (sym c.row_by_index.ensures.row) ∙ ap (λ row. owed_in (outcome_of row)) c.in-WriterBranches.is in
    ap (λ os. hop_in os c.args.number) owed
    ∙ hop_of_branch c.in-WriterBranches.field-0 c.in-WriterBranches.field-1.now c.args.number
    (subst (λ os. c.args.number < length os) owed c.requires.numbered)
