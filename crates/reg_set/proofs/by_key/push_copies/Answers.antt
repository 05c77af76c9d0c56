use Rattle.std.proofs.lemmas.Result.{on_ok_weaker}
use Rattle.reg_set.proofs.Indexed.{copies_after}
use Rattle.reg_set.proofs.by_key.push_copies.Goals as goal

pub returns : goal.returns
returns c =
    on_ok_weaker _ (
    copies_after c.args.found.now.items c.extend_from_slice.new.self.items c.args.records.now) c.extend_from_slice.ensures.items
