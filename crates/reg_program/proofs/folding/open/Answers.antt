use Rattle.std.proofs.Common.{List, refl, ap, ◌∙◌}
use Rattle.std.proofs.lemmas.Result.{err_from_is_err_and}
use Rattle.std.specs.FinSet.{from_list}
use Rattle.reg_records.specs.declared.log.LogError.TheVariants.{OutOfMemory}
use Rattle.reg_records.specs.declared.record.Record.{Record}
use Rattle.reg_set.specs.LastRecords.{last_records}
use Rattle.reg_set.specs.RecordOrder.{record_cmp}
use Rattle.reg_program.proofs.Openings.{opens}
use Rattle.reg_program.proofs.folding.open.Goals as goal

pub returns-in-Err-clause-refused : goal.returns-in-Err-clause-refused
returns-in-Err-clause-refused g c = (c.in-Err.e, c.fold_error.ensures, c.in-Err.ensures.refused)

pub returns-in_err-registry-clause-refused : goal.returns-in_err-registry-clause-refused
returns-in_err-registry-clause-refused g c =
    let p = err_from_is_err_and c.from_residual.result c.from_residual.ensures.1 in
    rw (p.1, p.2) (OutOfMemory, refl, c.in-Ok.ensures.faults)

pub returns-clause-opened : goal.returns-clause-opened
returns-clause-opened g c =
    opens c.records_are_ordered.ensures.all c.records_are_ordered.ensures.apart c.in-Ok.log
    (g.R.Read.remaining c.args.reader.now.inner) (g.R.Read.remaining c.read_log.new.reader.inner)
    _ (c.in_ok-registry.ensures ∙ ap (λ (rs : List Record). last_records (from_list {R = record_cmp} rs)) c.deref.ensures.value)
    refl c.in-Ok.ensures.read
