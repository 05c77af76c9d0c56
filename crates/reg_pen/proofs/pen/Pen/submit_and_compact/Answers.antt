use Rattle.reg_shared.specs.Held.{base_of}
use Rattle.reg_pen.proofs.Compacting.{compacts_not, compacts_then}
use Rattle.reg_pen.proofs.Prefixes.{prefix_trans}
use Rattle.reg_pen.proofs.pen.Pen.submit_and_compact.Goals as goal

pub returns-then-batches-before-clause-done : goal.returns-then-batches-before-clause-done
returns-then-batches-before-clause-done g c =
    let done = c.submit-submitted.ensures in
    compacts_then g.K.Keep.keeps (base_of g.N.FeedName.first) c.args.since c.args.self.now c.submit-submitted.new.self
    c.args.command.now c.submit-submitted.result.reply c.submit-submitted.result.seen c.batches-before.result c.batches.result
    done.submits done.seen c.batches-before.ensures.count c.batches.ensures.count
    c.compact_to.new.self c.floor_due-floor.result c.compact_to.result c.if-batches-before.true c.floor_due-floor.ensures
    c.compact_to.ensures.compacted c.compact_to.ensures.refused

pub returns-else-batches-before-clause-done : goal.returns-else-batches-before-clause-done
returns-else-batches-before-clause-done g c =
    let done = c.submit-submitted.ensures in
    compacts_not g.K.Keep.keeps (base_of g.N.FeedName.first) c.args.since c.args.self.now c.submit-submitted.new.self
    c.args.command.now c.submit-submitted.result.reply c.submit-submitted.result.seen c.batches-before.result c.batches.result
    done.submits done.seen c.batches-before.ensures.count c.batches.ensures.count c.if-batches-before.false

pub returns-then-batches-before-clause-grows : goal.returns-then-batches-before-clause-grows
returns-then-batches-before-clause-grows g c =
    prefix_trans c.args.self.now.published c.submit-submitted.new.self.published c.compact_to.new.self.published
    c.submit-submitted.ensures.grows c.compact_to.ensures.grows
