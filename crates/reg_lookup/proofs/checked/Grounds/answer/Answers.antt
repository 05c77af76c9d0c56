use Rattle.std.proofs.Common.{subst, ◌∙◌}
use Rattle.std.proofs.lemmas.Result.{IfOk-weaker}
use Rattle.reg_modes.specs.reg_fold.Entries.{entries}
use Rattle.reg_lookup.specs.Checked.{CheckedOn, TellsVerdict, asked_on, checked_on, olds_of}
use Rattle.reg_lookup.proofs.LookedAt.{told_of_all}
use Rattle.reg_lookup.proofs.checked.Grounds.answer.Goals as goal

pub returns : goal.returns
returns c =
    IfOk-weaker c.answer_on.result _ _ (λ a told rs subject which taken.
    told_of_all (checked_on rs subject which).level c.args.text.now c.args.verbose (olds_of (entries rs) subject which) a
    (subst (λ (g : CheckedOn). TellsVerdict g.level c.args.text.now c.args.verbose (asked_on g.olds c.args.text.now) a)
    (c.self.view_is ∙ taken) told))
    c.answer_on.ensures
