use Rattle.std.proofs.Common.{not, ◌∙◌, rules}
use Rattle.std.proofs.lemmas.Iterator.Consumers.{YieldsList-from_rest}
use Rattle.std.proofs.lemmas.Iterator.Search.{any_from_yields_List}
use Rattle.std.specs.BTreeMap.{values}
use Rattle.reg_entries.specs.Covered.{shown}
use Rattle.reg_entries.specs.declared.entry.Entry.{Entry}
use Rattle.reg_entries.proofs.Shown.{any_shown}
use Rattle.reg_entries.proofs.lists.any_live.Goals as goal

pub returns : goal.returns
returns c =
    let es = values c.args.entries.now in
    let deletes = c.args.deletes.now in
    any_from_yields_List (λ (e : Entry). not (shown deletes e).soft) _ _ _ c.any.ensures.ran
    (YieldsList-from_rest es c.values.ensures.rest) (λ x b q h. search rules)
    ∙ any_shown deletes es
