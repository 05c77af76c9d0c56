use Rattle.std.proofs.Common.{List, false, map, sym, ap, subst, ◌∙◌}
use Rattle.std.proofs.lemmas.Result.{IfOk-weaker}
use Rattle.std.specs.Option.{option_copied, option_to_list}
use Rattle.reg_modes.specs.reg_entries.Sought.{AreInVersionOrder}
use Rattle.reg_modes.specs.reg_entries.declared.entry.Entry.{Entry}
use Rattle.reg_modes.specs.reg_fold.Standing.{live}
use Rattle.reg_modes.specs.reg_level_names.declared.level.Level.TheVariants as levels
use Rattle.reg_rules.proofs.LookedAt.{looked_at-rise, newest_stands_last}
use Rattle.reg_rules.proofs.looking.latest_live.Goals as goal

pub returns-in-Some-clause-all : goal.returns-in-Some-clause-all
returns-in-Some-clause-all c =
    let es : List Entry = live c.args.registry.now c.args.subject.now in
    let rise : AreInVersionOrder es = c.entries_stand_by_version.ensures c.args.registry.now c.args.subject.now false in
    IfOk-weaker c.alone.result _ _ (λ found is.
    is ∙ ap option_to_list (ap option_copied (sym c.in-Some.is) ∙ c.in_ok-latest.ensures) ∙ newest_stands_last es rise) c.alone.ensures

pub returns-in-Some-clause-in_order : goal.returns-in-Some-clause-in_order
returns-in-Some-clause-in_order c =
    let es : List Entry = live c.args.registry.now c.args.subject.now in
    let rise : AreInVersionOrder es = c.entries_stand_by_version.ensures c.args.registry.now c.args.subject.now false in
    IfOk-weaker c.alone.result _ _ (λ found is.
    subst AreInVersionOrder
    (sym (is ∙ ap option_to_list (ap option_copied (sym c.in-Some.is) ∙ c.in_ok-latest.ensures) ∙ newest_stands_last es rise))
    (looked_at-rise levels.Backward es rise)) c.alone.ensures

pub returns-in-None-clause-all : goal.returns-in-None-clause-all
returns-in-None-clause-all c =
    let es : List Entry = live c.args.registry.now c.args.subject.now in
    let rise : AreInVersionOrder es = c.entries_stand_by_version.ensures c.args.registry.now c.args.subject.now false in
    ap (map (λ e. e.now)) c.new.ensures.items
    ∙ ap option_to_list (ap option_copied (sym c.in-None.is) ∙ c.in_ok-latest.ensures)
    ∙ newest_stands_last es rise
