use Rattle.avro_resolve.proofs.Searching.{agrees_added}
use Rattle.avro_resolve.proofs.search.Search.reach.Goals as goal

pub returns-in_ok-push-clause-agrees : goal.returns-in_ok-push-clause-agrees
returns-in_ok-push-clause-agrees c =
    rw c.in_ok-push.ensures.items (
    agrees_added _ _ c.args.self.now.entries.items c.args.entry c.requires c.in_ok-insert.ensures.seen c.in_ok-insert.ensures.fair)
