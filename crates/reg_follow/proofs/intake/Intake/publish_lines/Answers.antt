use Rattle.std.proofs.Common.{sym, ap, subst}
use Rattle.reg_intake.specs.declared.fault.IntakeError.TheVariants as intakes
use Rattle.reg_follow.specs.Following.{Following, GoesOn, IsStopped}
use Rattle.reg_follow.proofs.Taking.{goes_on_shown, refused_memory}
use Rattle.reg_follow.proofs.intake.Intake.publish_lines.Goals as goal

pub returns-in-Ok-clause-taken : goal.returns-in-Ok-clause-taken
returns-in-Ok-clause-taken g c text read has =
    let stop = c.in_ok-stop.stop in
    let go = goes_on_shown text read stop c.args.self.now c.append_lines.new.self (c.in_ok-stop.ensures.taken text read has) in (
      subst (λ (s : Following). GoesOn text read stop c.args.self.now s) (sym c.in-Ok.ensures.published) go,
      ap (λ (s : Following). s.pending) c.in-Ok.ensures.published,
    )

pub returns-in-Err-clause-refused : goal.returns-in-Err-clause-refused
returns-in-Err-clause-refused g c text read has =
    subst (λ (s : Following). IsStopped text read intakes.OutOfMemory s) (sym c.in-Err.ensures.refused)
    (refused_memory text read c.in_ok-stop.stop c.args.self.now c.append_lines.new.self (c.in_ok-stop.ensures.taken text read has))
