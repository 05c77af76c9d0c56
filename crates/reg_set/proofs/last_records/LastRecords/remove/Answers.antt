use Rattle.std.proofs.Common.{sym, subst, ◌∙◌}
use Rattle.reg_set.specs.LastRecords.{LosesAtMost}
use Rattle.reg_set.proofs.Removed.{is_there, nothing_removed, one_lost, one_removed}
use Rattle.reg_set.proofs.last_records.LastRecords.remove.Goals as goal

pub put_back-requires-clause-there : goal.put_back-requires-clause-there
put_back-requires-clause-there c =
    is_there c.args.self.now c.args.given.now c.is_compact.ensures (sym c.contains.ensures ∙ c.if-contains.true)

pub returns-then-contains-clause-removed : goal.returns-then-contains-clause-removed
returns-then-contains-clause-removed c =
    c.put_back.ensures ∙ one_removed c.args.self.now c.args.given.now c.is_compact.ensures (sym c.contains.ensures ∙ c.if-contains.true)

pub returns-then-contains-clause-lasts : goal.returns-then-contains-clause-lasts
returns-then-contains-clause-lasts c =
    let r = c.args.given.now in
    let S = c.args.self.now in
    subst (LosesAtMost r S) (sym c.put_back.ensures) (one_lost S r c.is_compact.ensures (sym c.contains.ensures ∙ c.if-contains.true))

pub returns-else-contains-clause-removed : goal.returns-else-contains-clause-removed
returns-else-contains-clause-removed c =
    nothing_removed c.args.self.now c.args.given.now (sym c.contains.ensures ∙ c.if-contains.false)
