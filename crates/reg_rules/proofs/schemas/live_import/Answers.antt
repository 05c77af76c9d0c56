use Rattle.std.proofs.Common.{sym, ◌∙◌}
use Rattle.reg_rules.proofs.Known.{no_live_import, unknown_id}
use Rattle.reg_rules.proofs.schemas.live_import.Goals as goal

pub returns-then-is_none : goal.returns-then-is_none
returns-then-is_none c =
    sym (no_live_import c.args.registry.now c.args.subject.now c.args.normal.now
    (sym c.in_ok-known.ensures ∙ unknown_id _ _ c.is_none.ensures c.if-is_none.true) c.args.id)
