use Rattle.std.proofs.Common.{◌≡◌, true, false, rules, tests}
use Rattle.reg_entries.specs.Schemas.{is_held}
use Rattle.reg_entries.proofs.Listed.{refreshed_away, refreshed_stays}
use Rattle.reg_entries.proofs.schemas.refresh.Goals as goal

pub returns-then-not-has_schema : goal.returns-then-not-has_schema
returns-then-not-has_schema c =
    let isnt : is_held c.args.entries.now c.args.schema.now ≡ false = search (rules, tests) in
    refreshed_away c.args.entries.now c.args.schemas.now c.remove.new.self c.args.schema.now isnt c.remove.ensures.updates.0

pub returns-else-not-has_schema : goal.returns-else-not-has_schema
returns-else-not-has_schema c =
    let is : is_held c.args.entries.now c.args.schema.now ≡ true = search (rules, tests) in
    refreshed_stays c.args.entries.now c.args.schemas.now c.args.schemas.now c.args.schema.now is
