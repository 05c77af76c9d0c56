use Rattle.std.proofs.Common.{◌<◌, cond, is_none, length, arith, ap, ◌∙◌}
use Rattle.std.specs.FinSet as set
use Rattle.reg_set.specs.Records.{Records}
use Rattle.reg_fold.proofs.Leaving.{difference-empty, difference-more}
use Rattle.reg_fold.proofs.registry.Registry.forget_all.Goals as goal

pub loop-record-init : goal.loop-record-init
loop-record-init c =
    let order = c.records_are_ordered.ensures in
    record {
      left = difference-empty order.all order.apart c.args.self.now;
      alike = c.giving_alike_is_an_equivalence.ensures.itself c.args.self.now;
    }

pub loop-record-preserved : goal.loop-record-preserved
loop-record-preserved c =
    let order = c.records_are_ordered.ensures in
    let kept = c.loop-record.invariant in
    let xs = c.args.given.now in
    let i = c.loop-record.record-index in
    let r = c.record-item.result in
    let within : i < length xs = omega arith in
    record {
      left = c.forget.ensures.left ∙ ap (λ (s : Records). cond (is_none r.value) (set.remove s r) s) kept.left
          ∙ difference-more order.all order.apart c.args.self.now (λ x. is_none x.value) xs i r within c.record-item.is;
      alike = c.giving_alike_is_an_equivalence.ensures.across c.args.self.now
          c.loop-record.self c.forget.new.self kept.alike c.forget.ensures.alike;
    }
