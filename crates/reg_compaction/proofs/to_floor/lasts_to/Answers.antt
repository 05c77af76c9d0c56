use Rattle.std.proofs.Common.{◌+◌, List, take, ap, sym, ◌∙◌, subst}
use Rattle.std.proofs.lemmas.List.{take_all}
use Rattle.std.specs.FinSet.{remove}
use Rattle.reg_records.specs.declared.record.Record.{Record}
use Rattle.reg_set.specs.Compaction.{deletes_below}
use Rattle.reg_set.specs.Records.{Records}
use Rattle.reg_compaction.proofs.Drops.{AreDropped, all_dropped, at_first, none_dropped, one_dropped}
use Rattle.reg_compaction.proofs.to_floor.lasts_to.Goals as goal
use Rattle.reg_compaction.proofs.to_floor.lasts_to.Goals.{then-deletes_below, else-deletes_below}

pub loop-record-init : goal.loop-record-init
loop-record-init c = at_first c.args.floor c.args.records.now c.in_ok-lasts.lasts

pub loop-record-preserved : goal.loop-record-preserved
loop-record-preserved c =
    let o = c.records_are_ordered.ensures in
    let floor = c.args.floor in
    let rs = c.args.records.now in
    let i = c.loop-record.record-index in
    let r = c.record-item.result in
    let old : Records = c.in_ok-lasts.lasts in
    let now : Records = c.loop-record.lasts in
    elim c.if-deletes_below.branch [
      | then-deletes_below w ↦ subst (λ (s : Records). AreDropped floor (take (i + 1) rs) old s) (sym w.lasts-is)
          (one_dropped o.all o.apart o.keys o.keys_apart floor rs i r
          c.loop-record-test.true old now c.loop-record.invariant w.remove.new.self
          (ap (deletes_below floor) (sym c.record-item.is) ∙ sym c.deletes_below.ensures ∙ w.if-deletes_below.true) (
          w.remove.ensures.removed ∙ ap (remove now) c.record-item.is))
      | else-deletes_below w ↦ subst (λ (s : Records). AreDropped floor (take (i + 1) rs) old s) (sym w.lasts-is)
          (none_dropped o.all o.apart o.keys o.keys_apart floor rs i r c.loop-record-test.true old now c.loop-record.invariant
          (ap (deletes_below floor) (sym c.record-item.is) ∙ sym c.deletes_below.ensures ∙ w.if-deletes_below.false))
    ]

pub returns : goal.returns
returns c =
    let o = c.records_are_ordered.ensures in
    let rs : List Record = c.args.records.now in
    let all = take_all c.loop-record.record-index rs c.loop-record-test.false in
    all_dropped o.all o.apart o.keys o.keys_apart c.last_records_are_enough.ensures.least
    c.args.floor rs c.in_ok-lasts.lasts c.loop-record.lasts c.in_ok-lasts.ensures
    (subst (λ (l : List Record). AreDropped c.args.floor l c.in_ok-lasts.lasts c.loop-record.lasts) all c.loop-record.invariant)
