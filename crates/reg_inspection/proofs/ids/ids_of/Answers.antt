use Rattle.std.proofs.Common.{◌<◌, ap, ◌∙◌, length, List, ℕ, arith}
use Rattle.std.specs.BTreeSet.{insert_key}
use Rattle.std.specs.Ordering.{nat_cmp}
use Rattle.reg_inspection.proofs.Rising.{ids_more}
use Rattle.reg_inspection.proofs.ids.ids_of.Goals as goal

pub loop-entry-preserved : goal.loop-entry-preserved
loop-entry-preserved c =
    let es = c.args.entries.now in
    let i = c.loop-entry.entry-index in
    let within : i < length es = omega arith in
    c.in_ok-insert.ensures.keys
    ∙ ap (λ (ks : List ℕ). insert_key nat_cmp ks c.entry-item.result.now.id) c.loop-entry.invariant
    ∙ ids_more es i c.entry-item.result within c.entry-item.is
