use Rattle.std.proofs.Common.{◌≡◌, Some, None, rules}
use Rattle.reg_entries.proofs.Meant.{both_refreshed, none_refreshed, some_refreshed}
use Rattle.reg_entries.proofs.meanings.refresh_both.Goals as goal

pub returns-in-Some-clause-refreshed : goal.returns-in-Some-clause-refreshed
returns-in-Some-clause-refreshed c =
    let s = c.args.schemas.now in
    let mid = c.refresh_meaning.new.meanings in
    both_refreshed s c.args.one c.args.other c.args.meanings.now mid
    c.refresh_meaning-in-Some.new.meanings c.refresh_meaning.ensures.refreshed
    (some_refreshed s _ c.args.other mid c.refresh_meaning-in-Some.new.meanings c.in-Some.is c.refresh_meaning-in-Some.ensures.refreshed)

pub returns-clause-refreshed : goal.returns-clause-refreshed
returns-clause-refreshed c =
    let s = c.args.schemas.now in
    let mid = c.refresh_meaning.new.meanings in
    both_refreshed s c.args.one c.args.other c.args.meanings.now mid mid c.refresh_meaning.ensures.refreshed
    (none_refreshed s c.args.other mid (search rules))
