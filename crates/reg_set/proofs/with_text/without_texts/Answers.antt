use Rattle.std.proofs.Common.{sym, ◌∙◌}
use Rattle.std.proofs.lemmas.Iterator.Adapters.{YieldsList-from_vec}
use Rattle.std.proofs.lemmas.Iterator.Consumers.{YieldsList-end}
use Rattle.std.proofs.lemmas.List.{map-id}
use Rattle.reg_set.proofs.with_text.without_texts.Goals as goal

pub returns : goal.returns
returns c =
    let xs = c.args.written.items in
    let gives = c.into_iter-one-iterator.ensures.into_iter_gives in
    let t = YieldsList-end (YieldsList-from_vec xs gives.0 (gives.1 ∙ c.args.written.ok.0)) c.loop-one.yielded
    c.loop-one.one-iterator c.loop-one.yielded_by c.next.result c.next.new.self c.in-None.is c.next.ensures.steps in
    c.loop-one.invariant ∙ (sym (map-id c.loop-one.yielded) ∙ t.0)
