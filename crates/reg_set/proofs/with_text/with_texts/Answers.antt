use Rattle.std.proofs.Common.{sym, ◌∙◌}
use Rattle.std.proofs.lemmas.Iterator.Adapters.{YieldsList-from_vec}
use Rattle.std.proofs.lemmas.Iterator.Consumers.{YieldsList-end}
use Rattle.std.proofs.lemmas.List.{map-id}
use Rattle.reg_set.proofs.with_text.with_texts.Goals as goal

pub returns : goal.returns
returns c =
    let xs = c.args.records.items in
    let gives = c.into_iter-record-iterator.ensures.into_iter_gives in
    let t = YieldsList-end (YieldsList-from_vec xs gives.0 (gives.1 ∙ c.args.records.ok.0)) c.loop-record.yielded
    c.loop-record.record-iterator c.loop-record.yielded_by c.next.result c.next.new.self c.in-None.is c.next.ensures.steps in
    c.loop-record.invariant ∙ (sym (map-id c.loop-record.yielded) ∙ t.0)
