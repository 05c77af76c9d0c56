use Rattle.std.proofs.Common.{◌≡◌, Bor, List, map, rules, sym, subst, ◌∙◌}
use Rattle.std.proofs.lemmas.Result.{IfOk-weaker}
use Rattle.std.specs.FinSet.{from_list}
use Rattle.reg_values.specs.reg_records.declared.record.Record.{Record}
use Rattle.reg_set.specs.Compaction.{KeepsLasts}
use Rattle.reg_set.specs.Records.{Records}
use Rattle.reg_fold.proofs.registry.Registry.of_set.Goals as goal

-- what keeps the lasts of a set does so as a slice too
lent : (xs ys : List (Bor Record)) (whole : Records) → xs ≡ ys
    → KeepsLasts (from_list (map (λ r. r.now) ys)) whole → KeepsLasts (from_list (map (λ r. r.now) xs)) whole
lent xs ys whole same = subst (λ (zs : List (Bor Record)). KeepsLasts (from_list (map (λ r. r.now) zs)) whole) (sym same)

pub returns-clause-lasts : goal.returns-clause-lasts
returns-clause-lasts c =
    let one = c.last_records_are_enough.ensures.last_records in
    let same : c.deref.result.now ≡ c.in_ok-last_of_each.field-0.items = search rules in
    let keeps = lent c.deref.result.now c.in_ok-last_of_each.field-0.items c.args.set.now same c.in_ok-last_of_each.ensures in
    IfOk-weaker c.over.result _ _ (λ registry is. is ∙ one _ _ keeps) c.over.ensures

pub returns-clause-compactions : goal.returns-clause-compactions
returns-clause-compactions c =
    let one = c.last_records_are_enough.ensures.last_records in
    let same : c.deref.result.now ≡ c.in_ok-last_of_each.field-0.items = search rules in
    let keeps = lent c.deref.result.now c.in_ok-last_of_each.field-0.items c.args.set.now same c.in_ok-last_of_each.ensures in
    IfOk-weaker c.over.result _ _ (λ registry is part of_part. is ∙ one _ _ keeps ∙ sym (one part c.args.set.now of_part)) c.over.ensures
