use Rattle.std.proofs.Common.{rules, ◌≡◌, ◌++◌, Err, subst}
use Rattle.reg_follow.specs.Following.{StopsAt}
use Rattle.reg_follow.specs.declared.intake.Stop.{Stop}
use Rattle.reg_follow.proofs.Taking.{is_stopped, more_of_none, more_taken}
use Rattle.reg_follow.proofs.reading.publish_all.Goals as goal

pub loop-time-init : goal.loop-time-init
loop-time-init g c text read has = more_of_none text read c.args.intake.now has

pub returns-in-Waits-clause-published : goal.returns-in-Waits-clause-published
returns-in-Waits-clause-published g c text read has =
    let so = c.loop-time.invariant text read has in
    let all = c.in_ok-stop.ensures.taken text (read ++ so.0) so.1 in
    let go = all.0 in record {
      more = so.0 ++ go.more;
      taken = more_taken text read so.0 go.more c.publish_lines.new.self go.taken;
      none = all.1;
      stops = subst (λ (s : Stop). StopsAt s c.loop-time.intake.unread c.publish_lines.new.self.unread) c.in-Waits.is go.stops;
    }

pub returns-in-Ended-clause-published : goal.returns-in-Ended-clause-published
returns-in-Ended-clause-published g c text read has =
    let so = c.loop-time.invariant text read has in
    let all = c.in_ok-stop.ensures.taken text (read ++ so.0) so.1 in
    let go = all.0 in record {
      more = so.0 ++ go.more;
      taken = more_taken text read so.0 go.more c.publish_lines.new.self go.taken;
      none = all.1;
      stops = subst (λ (s : Stop). StopsAt s c.loop-time.intake.unread c.publish_lines.new.self.unread) c.in-Ended.is go.stops;
    }

pub returns-in_err-stop-clause-refused : goal.returns-in_err-stop-clause-refused
returns-in_err-stop-clause-refused g c text read has =
    let so = c.loop-time.invariant text read has in
    let is : c.from_residual.result ≡ Err c.in_err-stop.field-0.0 = search rules in
    rw is (is_stopped text read so.0 c.in_err-stop.field-0.0 c.publish_lines.new.self (c.in_err-stop.ensures.refused text (read ++ so.0) so.1))

pub loop-time-preserved : goal.loop-time-preserved
loop-time-preserved g c text read has =
    let so = c.loop-time.invariant text read has in
    let go = (c.in_ok-stop.ensures.taken text (read ++ so.0) so.1).0 in
    (so.0 ++ go.more, more_taken text read so.0 go.more c.publish_lines.new.self go.taken)
