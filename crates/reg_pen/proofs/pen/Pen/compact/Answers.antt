use Rattle.std.proofs.Common.{◌≡◌, ◌≤◌, ◌++◌, ℕ, OnOk, IfErr, ap, sym, subst, ◌∙◌}
use Rattle.reg_shared.specs.Held.{base_of}
use Rattle.reg_pen.specs.Pen.{Compacts, IsUnsettled, PenState, with_pending}
use Rattle.reg_pen.proofs.Compacting.{unsettled_or_not}
use Rattle.reg_pen.proofs.pen.Pen.compact.Goals as goal

pub returns-clause-compacted : goal.returns-clause-compacted
returns-clause-compacted g c =
    let base = base_of g.N.FeedName.first in
    let is : c.self.inside.floor ≡ (with_pending base c.args.self.now).kept.floor =
    c.self.invariant.3.0 ∙ ap (λ (l : PenState g.row.K.Denot). (with_pending base l).kept.floor) c.self.view_is in
    subst (λ (n : ℕ). OnOk c.compact_to.result (Compacts base n c.args.self.now c.compact_to.new.self)) is c.compact_to.ensures.compacted

pub returns-clause-refused : goal.returns-clause-refused
returns-clause-refused g c =
    let base = base_of g.N.FeedName.first in
    let is : c.self.inside.floor ≡ (with_pending base c.args.self.now).kept.floor =
    c.self.invariant.3.0 ∙ ap (λ (l : PenState g.row.K.Denot). (with_pending base l).kept.floor) c.self.view_is in
    let below : (with_pending base c.args.self.now).kept.floor ≤ (with_pending base c.args.self.now).next =
    c.floors_stay_below.ensures.below base (c.args.self.now.published ++ c.args.self.now.pending) c.self.invariant.0.adopted.floor_below in
    unsettled_or_not base c.self.inside.floor c.args.self.now c.compact_to.new.self c.compact_to.result is below c.compact_to.ensures.refused
