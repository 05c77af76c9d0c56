-- The log is what the bytes that were read say.
use Rattle.std.proofs.Common.{◌≡◌, Ok, sym, ap, subst, ◌∙◌, rules}
use Rattle.reg_pen.specs.KeptState.{KeptState}
use Rattle.reg_records.specs.Log.{IsLogOf, log_of}
use Rattle.reg_file_keep.specs.declared.log_keep.LogKeep.{LogKeep}
use Rattle.reg_file_keep.proofs.Rooms.{of_log}
use Rattle.reg_file_keep.proofs.closed.start_closed.Goals as goal

pub returns-clause-log : goal.returns-clause-log
returns-clause-log g c modelled =
    let known = c.requires modelled in
    let seen = g.D.Disk.seen in
    let d = c.args.disk.now in
    let first = c.in_ok-sync.ensures.seen known in
    let bytes : c.in_ok-bytes.bytes.items ≡ seen d = c.in_ok-bytes.ensures.bytes first.0 ∙ first.1 in
    let found = c.in_ok-log.ensures.read in
    let given : c.new-reader.result.inner.now ≡ c.in_ok-bytes.bytes.items = search rules in
    let reads : log_of (seen d) ≡ Ok found.0 = ap log_of (sym (given ∙ bytes)) ∙ found.1 in (
      record { floor = found.0.floor; reads = found.0.reads },
      ap of_log reads,
      subst (λ (k : KeptState (LogKeep g.row.D.Denot)). IsLogOf found.0.floor found.0.reads k.log) (sym c.new.ensures) found.2,
    )
