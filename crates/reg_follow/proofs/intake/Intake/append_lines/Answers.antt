use Rattle.std.proofs.Common.{◌≡◌, ◌++◌, Option, None, Some, subst, arith}
use Rattle.reg_follow.specs.Following.{TakesLine}
use Rattle.reg_follow.specs.declared.intake.TheConstants.{LINES_AT_ONCE}
use Rattle.reg_follow.specs.declared.intake.Stop.{Stop}
use Rattle.reg_follow.proofs.Taking.{is_stopped, more_of_none, more_taken, stops_there}
use Rattle.reg_follow.proofs.intake.Intake.append_lines.Goals as goal

pub loop-line-init : goal.loop-line-init
loop-line-init g c text read has =
    let none = more_of_none text read c.args.self.now has in (none.0, none.1, omega (arith, has.has.count))

pub returns-in-Ok-Some-clause-taken : goal.returns-in-Ok-Some-clause-taken
returns-in-Ok-Some-clause-taken g c text read has =
    let so = c.loop-line.invariant text read has in
    let it : TakesLine text (read ++ so.0) c.loop-line.self (Some c.in-Ok-Some.stop) c.append_line.new.self =
    subst (λ (o : Option Stop). TakesLine text (read ++ so.0) c.loop-line.self o c.append_line.new.self) c.in-Ok-Some.field-0-is
    (c.in-Ok-Some.ensures.taken text (read ++ so.0) so.1) in
    stops_there text read so.0 c.args.self.now c.loop-line.self c.append_line.new.self c.in-Ok-Some.stop it

pub returns-in-Err-clause-refused : goal.returns-in-Err-clause-refused
returns-in-Err-clause-refused g c text read has =
    let so = c.loop-line.invariant text read has in
    is_stopped text read so.0 c.in-Err.error c.append_line.new.self (c.in-Err.ensures.refused text (read ++ so.0) so.1)

pub loop-line-preserved : goal.loop-line-preserved
loop-line-preserved g c text read has =
    let so = c.loop-line.invariant text read has in
    let it : TakesLine text (read ++ so.0) c.loop-line.self None c.append_line.new.self =
    subst (λ (o : Option Stop). TakesLine text (read ++ so.0) c.loop-line.self o c.append_line.new.self) c.in-Ok-None.field-0-is
    (c.in-Ok-None.ensures.taken text (read ++ so.0) so.1) in
    (so.0 ++ it.0, more_taken text read so.0 it.0 c.append_line.new.self it.1, omega (arith, it.2, so.2))

pub returns-clause-taken : goal.returns-clause-taken
returns-clause-taken g c text read has =
    let so = c.loop-line.invariant text read has in
    let all : c.loop-line._line ≡ LINES_AT_ONCE = omega (arith, c.loop-line-test.false, c.loop-line.auto._line-end) in
    record { more = so.0; taken = so.1; stops = omega (arith, so.2, all) }
