use Rattle.std.proofs.Common.{sym, ap, ◌∙◌}
use Rattle.std.specs.Option.{option_copied}
use Rattle.reg_rules.specs.Better.{better}
use Rattle.reg_modes.specs.reg_entries.Sought.{has_schema}
use Rattle.reg_rules.proofs.Newest.{newest_more_of}
use Rattle.reg_rules.proofs.schemas.newest_schema.Goals as goal

pub loop-entry-preserved : goal.loop-entry-preserved
loop-entry-preserved c =
    let p = has_schema c.args.normal.now in
    let x = c.entry-item.result in
    c.better-best.ensures
    ∙ ap (λ b. better b x.now (option_copied c.loop-entry.best)) c.has_schema.ensures
    ∙ ap (better (p x.now) x.now) c.loop-entry.invariant
    ∙ sym (newest_more_of (λ e. e.now) p c.args.entries.now c.loop-entry.entry-index x c.loop-entry-test.true c.entry-item.is)
