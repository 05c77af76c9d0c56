use Rattle.std.proofs.Common.{◌≡◌, ◌+◌, suc, [], ◌∷◌, ◌++◌, subst, ◌∙◌, arith, length-append}
use Rattle.std.proofs.KnownBytes.{Consumes-trans}
use Rattle.std.proofs.lemmas.Result.{err_from_is_err_and}
use Rattle.reg_records.specs.Device.{bytes_in}
use Rattle.reg_records.proofs.Ends.{ends_then}
use Rattle.reg_records.proofs.Logs.{AreWholeLines-more, GoesOn, IsLogOf-more, GoesOn-more, IsLogRefusal-step, line_feeds-append, log_lines}
use Rattle.reg_records.proofs.log_reader.read_log.Goals.{then-branch+in_ok-read_next+else-branch-2, else-branch}
use Rattle.reg_records.proofs.log_reader.read_log.Goals as goal

pub returns-in_err-read_next-clause-refused : goal.returns-in_err-read_next-clause-refused
returns-in_err-read_next-clause-refused g c =
    let (floor, reads, is, low, high, within, (taken, took, feeds, whole, place), so_far, faults, least, most, end) =
    c.loop-log.invariant in
    let p = err_from_is_err_and c.from_residual-in_err-read_next.result c.from_residual-in_err-read_next.ensures.1 in
    rw (p.1, p.2)
    (IsLogRefusal-step c.loop-log.number c.args.reader.now c.loop-log.reader c.read_next.new.reader
    _ _ _ floor reads taken _ so_far took feeds whole place faults least most
    c.in_err-read_next.ensures.few c.in_err-read_next.ensures.refused)

pub loop-log-preserved : goal.loop-log-preserved
loop-log-preserved g c =
    let (floor, reads, is, low, high, within, (taken, took, feeds, whole, place), so_far, faults, least, most, end) =
    c.loop-log.invariant in
    let (few, read, adds, (line, (took', moved), none), step) = rw c.if-branch-2.true at c.in_ok-read_next.ensures.step in
    let number = c.loop-log.number in
    let more = line ++ 10 ∷ [] in
    let next : suc number ≡ number + 1 = omega arith in (
      floor,
      reads ++ read ∷ [],
      IsLogOf-more c.loop-log.log floor reads read c.read_next.new.log is adds,
      omega (arith, length-append reads (read ∷ []), low),
      omega (arith, length-append reads (read ∷ []), high),
      omega (arith, few),
      (
        taken ++ more,
        Consumes-trans _ _ _ taken more took took',
        omega (arith, feeds, none, line_feeds-append taken more, line_feeds-append line (10 ∷ [])),
        AreWholeLines-more taken line,
        omega (arith, place, moved, length-append taken more),
      ),
      subst (λ k.
          GoesOn (bytes_in g.R.Read.remaining c.args.reader.now)
          (bytes_in g.R.Read.remaining c.read_next.new.reader) floor (reads ++ read ∷ []) k) next
          (GoesOn-more _ _ _ floor reads read number taken so_far took step),
      c.in_ok-read_next.ensures.faults ∙ faults,
      omega (arith, least, c.in_ok-read_next.ensures.reads),
      omega (arith, most, c.in_ok-read_next.ensures.few),
      ends_then g.R.Read.remaining c.args.reader.now c.loop-log.reader c.read_next.new.reader end c.in_ok-read_next.ensures.end,
    )

pub returns-clause-reads : goal.returns-clause-reads
returns-clause-reads g c =
    elim c.if-branch.branch [
      | then-branch+in_ok-read_next+else-branch-2 w ↦
          let (floor, reads, is, low, high, within, taken, so_far, faults, least, most, end) = w.loop-log.invariant in
          let same = (rw w.if-branch-2.false at w.in_ok-read_next.ensures.step).0 in
          let lines = log_lines w.loop-log.log w.read_next.new.log floor reads is same in
          rw (w.reader-is, w.log-is) (omega (arith, most, w.in_ok-read_next.ensures.few, high, lines))
      | else-branch w ↦ rw (w.reader-is, w.log-is) (omega (arith, c.in_ok-read_first.ensures.few))
    ]
