use Rattle.std.proofs.Common.{[], ◌∷◌, sym, ap, subst, ◌∙◌}
use Rattle.reg_intake.specs.Intake.{Unread}
use Rattle.reg_intake.specs.declared.fault.IntakeError.TheVariants as intakes
use Rattle.reg_intake.specs.declared.incoming.Came.{Came}
use Rattle.reg_follow.specs.Following.{ComesTo, Following, IsStopped}
use Rattle.reg_follow.proofs.Taking.{added, more_of_none, stopped_behind}
use Rattle.reg_follow.proofs.intake.Intake.append_line.Goals as goal

pub returns-in-Err-clause-refused : goal.returns-in-Err-clause-refused
returns-in-Err-clause-refused g c text read has =
    let came = subst (λ (x : Came). ComesTo text read c.args.self.now x c.next_line.new.self) c.in-Line.is
    (c.in_ok-read.ensures.came text read has) in
    subst (λ (s : Following). IsStopped text read intakes.OutOfMemory s) (sym c.in-Err.ensures.refused)
    (stopped_behind text read c.in-Line.read intakes.OutOfMemory c.next_line.new.self came.0 came.1 tt)

pub returns-in-End-clause-taken : goal.returns-in-End-clause-taken
returns-in-End-clause-taken g c text read has =
    subst (λ (x : Came). ComesTo text read c.args.self.now x c.next_line.new.self) c.in-End.is (c.in_ok-read.ensures.came text read has)

pub returns-in-Nothing-clause-taken : goal.returns-in-Nothing-clause-taken
returns-in-Nothing-clause-taken g c text read has =
    subst (λ (x : Came). ComesTo text read c.args.self.now x c.next_line.new.self) c.in-Nothing.is (c.in_ok-read.ensures.came text read has)

pub returns-in-Ok-clause-taken : goal.returns-in-Ok-clause-taken
returns-in-Ok-clause-taken g c text read has =
    let came = subst (λ (x : Came). ComesTo text read c.args.self.now x c.next_line.new.self) c.in-Line.is
    (c.in_ok-read.ensures.came text read has) in (
      c.in-Line.read ∷ [],
      added text read c.in-Line.read c.next_line.new.self c.append.new.self came.0 came.1 c.in-Ok.ensures.added,
      ap (λ (u : Unread). u.count) c.in-Ok.ensures.added.unread ∙ came.2,
    )

pub returns-in-Floor-clause-taken : goal.returns-in-Floor-clause-taken
returns-in-Floor-clause-taken g c text read has =
    let came = subst (λ (x : Came). ComesTo text read c.args.self.now x c.next_line.new.self) c.in-Floor.is
    (c.in_ok-read.ensures.came text read has) in
    let none = more_of_none text read c.next_line.new.self came.0 in (none.0, none.1, came.1)
