use Rattle.std.proofs.Common.{◌∙◌}
use Rattle.reg_shared.proofs.Members.{stands}
use Rattle.reg_shared.proofs.kept.is_listed.Goals as goal

pub returns : goal.returns
returns c =
    let o = c.records_are_ordered.ensures in
    c.contains.ensures.value ∙ stands o.all o.apart c.args.older.now c.args.given.now
