use Rattle.std.proofs.Common.{◌++◌, ◌∙◌, sym, ap}
use Rattle.std.specs.Prelude.{decimal}
use Rattle.std.proofs.lemmas.List.{append_assoc}
use Rattle.std.proofs.lemmas.Result.{IfOk-equal}
use Rattle.exposition.specs.Numbers.{fraction}
use Rattle.exposition.proofs.Numbers.{number_in_parts}
use Rattle.exposition.proofs.number.push_number.Goals as goal

pub returns : goal.returns
returns c =
    let old = c.args.out.now.items in
    let whole = c.in_ok-push.ensures ∙ ap (λ t. old ++ t) c.format.ensures.text in
    IfOk-equal c.push_fraction.result c.push_fraction.new.out.items _ _ c.push_fraction.ensures
    (ap (λ t. t ++ fraction c.args.millionths) whole
    ∙ append_assoc old (decimal c.args.units) (fraction c.args.millionths)
    ∙ ap (λ t. old ++ t) (sym (number_in_parts c.args.units c.args.millionths c.requires)))
