use Rattle.std.proofs.Common.{◌≡◌, Some, None, sym, ap, subst, ◌∙◌, rules}
use Rattle.std.specs.BTreeMap.{get_by_text}
use Rattle.reg_entries.specs.Index.{IsTop}
use Rattle.reg_entries.proofs.Topmost.{top_is}
use Rattle.reg_entries.proofs.tops.refresh_top.Goals as goal

pub returns-in-Some-clause-top : goal.returns-in-Some-clause-top
returns-in-Some-clause-top c = λ room.
    let m = c.args.entries.now in
    subst (IsTop m c.args.place.0) (sym (c.set_top.ensures.top room))
    (top_is m c.requires c.args.place.0 (Some c.in-Some.version) (search rules))

pub returns-in-None-clause-top : goal.returns-in-None-clause-top
returns-in-None-clause-top c = λ room.
    let m = c.args.entries.now in
    let gone : get_by_text c.forget_top.new.tops c.args.place.0 ≡ None = search rules in
    subst (IsTop m c.args.place.0) (sym gone) (top_is m c.requires c.args.place.0 None (search rules))
