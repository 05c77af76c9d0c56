use Rattle.std.proofs.Common.{◌∙◌, sym}
use Rattle.std.proofs.lemmas.Result.{IfOk-weaker}
use Rattle.reg_compaction.proofs.Marks.{full_to, with_it_to}
use Rattle.reg_compaction.proofs.marking.compacted_to_with_mark.Goals as goal

pub returns-in-Some-2-clause-compacted : goal.returns-in-Some-2-clause-compacted
returns-in-Some-2-clause-compacted c =
    let told = c.in_ok-mark.ensures.mark in
    let ordered = rw c.in-Some-2.is at c.in_ok-text.ensures in
    with_it_to c.args.floor c.args.log.now c.in-Some-2.text.items told.0 told.1 c.in-Some.mark c.in_ok-plain.plain.items
    (sym c.in-Some.is ∙ told.2) c.in_ok-plain.ensures.compacted ordered

pub returns-clause-compacted : goal.returns-clause-compacted
returns-clause-compacted c =
    let told = c.in_ok-mark.ensures.mark in
    let no_line = rw c.in-None.is at c.in_ok-text.ensures in
    IfOk-weaker c.compacted_to_in_order-in-None.result _ _
    (λ text sorted. full_to c.args.floor c.args.log.now text.items told.0 told.1 c.in-Some.mark c.in_ok-plain.plain.items
    (sym c.in-Some.is ∙ told.2) c.in_ok-plain.ensures.compacted no_line sorted)
    c.compacted_to_in_order-in-None.ensures.compacted
