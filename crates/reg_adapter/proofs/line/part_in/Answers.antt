use Rattle.std.proofs.Common.{◌≡◌, Ok, Err, cond, refl, sym, ap, subst}
use Rattle.reg_records.specs.Line.{reading_at_front}
use Rattle.reg_adapter.proofs.Parts.{line_says}
use Rattle.reg_adapter.specs.Said.{IsFault, part_in}
use Rattle.reg_adapter.specs.declared.fault.MessageError.{MessageError}
use Rattle.reg_adapter.specs.declared.fault.MessageFault.TheVariants as faults
use Rattle.reg_adapter.specs.declared.line.Part.TheVariants as parts
use Rattle.reg_adapter.proofs.line.part_in.Goals as goal

pub returns-then-follows-clause-part : goal.returns-then-follows-clause-part
returns-then-follows-clause-part c text is free =
    line_says c.args.begun.now c.args.line.now text (Ok c.in-Ok.read) (Ok (parts.Line c.in-Ok.read)) is free c.if-line-le1.false
    c.in-Ok.ensures.«record» (ap (λ t. cond t (Ok (parts.Line c.in-Ok.read)) (Err faults.Gap)) (sym c.if-follows.ensures))

pub returns-else-follows-clause-fault : goal.returns-else-follows-clause-fault
returns-else-follows-clause-fault c text is free =
    subst (λ (e : MessageError). IsFault c.args.before (part_in c.args.begun.now text) e) (sym c.fault_behind-else-follows.ensures) (
      refl,
      line_says c.args.begun.now c.args.line.now text (Ok c.in-Ok.read) (Err faults.Gap) is free c.if-line-le1.false
          c.in-Ok.ensures.«record» (ap (λ t. cond t (Ok (parts.Line c.in-Ok.read)) (Err faults.Gap)) (sym c.if-follows.ensures)),
    )

pub returns-in-Err-Line-clause-fault : goal.returns-in-Err-Line-clause-fault
returns-in-Err-Line-clause-fault c text is free =
    let reads : reading_at_front c.args.line.now ≡ Err c.in-Err-Line.fault = rw c.in-Err-Line.field-0-is at c.in-Err-Line.ensures.fault in
    subst (λ (e : MessageError). IsFault c.args.before (part_in c.args.begun.now text) e) (sym c.fault_behind-in-Err-Line.ensures) (
      refl,
      line_says c.args.begun.now c.args.line.now text (Err c.in-Err-Line.fault) (Err (faults.Line c.in-Err-Line.fault)) is free
          c.if-line-le1.false reads refl,
    )
