use Rattle.std.proofs.Common.{not, bytes_eq, ◌∙◌, Bor, rules, tests}
use Rattle.std.proofs.lemmas.Iterator.{YieldsList-from_slice}
use Rattle.std.proofs.lemmas.Iterator.Search.{any_from_yields_List}
use Rattle.reg_fold.specs.reg_entries.declared.entry.Entry.{Entry}
use Rattle.reg_inspection.proofs.Given.{apart_is}
use Rattle.reg_inspection.proofs.ids.are_apart.Goals as goal

pub returns-in-Some : goal.returns-in-Some
returns-in-Some c =
    any_from_yields_List (λ (e : Bor Entry). not (bytes_eq e.now.normal c.in-Some.first.now.now.normal)) _ _ _ c.any.ensures.ran
    (YieldsList-from_slice c.args.entries.now cc) (λ x b q k. search (rules, tests))
    ∙ apart_is c.args.entries.now c.in-Some.first.now c.in-Some.ensures.value
