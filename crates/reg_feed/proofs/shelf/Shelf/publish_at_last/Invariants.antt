use Rattle.std.proofs.Common.{◌≡◌, drop}
use Rattle.reg_feed.proofs.shelf.Shelf.publish_at_last.Given as goal

abbrev pub invariant-loop : goal.invariant-loop
invariant-loop g l =
    (goal.iterator-loop g).can_next l.iterator' × (goal.iterator-loop g).is_finite l.iterator' × (l.self.1.0.desk.shown.value ≡ l.fn.self.writer.desk.shown.value)
    × (drop l.self.1.0.behind l.self.1.0.log.items ≡ drop l.fn.self.writer.behind l.fn.self.writer.log.items)
