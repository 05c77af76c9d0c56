use Rattle.std.proofs.Common.{◌≡◌, ◌≤◌, ◌-◌, length, take}
use Rattle.reg_topic.specs.Topic.{after_items}
use Rattle.reg_topic.specs.declared.topic.Topic.{Topic}
use Rattle.reg_world.proofs.folding.Folded.catch_up.Given as goal

abbrev pub invariant-loop-self : goal.invariant-loop-self
invariant-loop-self l = record {
  within : l.self.count ≤ length l.items;
  folds : (base : Topic) → l.fn.self.topic ≡ after_items base (take l.fn.self.count l.items)
      → l.self.topic ≡ after_items base (take l.self.count l.items);
}

abbrev pub decreases-loop-self : goal.decreases-loop-self
decreases-loop-self l = length l.items - l.self.count
