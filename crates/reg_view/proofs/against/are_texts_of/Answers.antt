use Rattle.std.proofs.Common.{refl, ap, ◌∙◌, arith}
use Rattle.reg_view.proofs.Matters.{alike_more}
use Rattle.reg_view.proofs.against.are_texts_of.Goals as goal

pub loop-place-preserved : goal.loop-place-preserved
loop-place-preserved c =
    alike_more c.args.olds.now c.args.entries.now
    (λ e. (e.now.version, e.now.text)) c.loop-place.place c.index-olds-place.result c.index-entries-place.result
    (omega arith) (omega arith) c.index-olds-place.is
    (c.if-not-is_text_of.ensures.0 refl ∙ ap (λ e. (e.now.version, e.now.text)) c.index-entries-place.is) c.loop-place.invariant
