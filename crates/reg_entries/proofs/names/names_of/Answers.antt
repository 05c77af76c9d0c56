use Rattle.std.proofs.Common.{◌∙◌}
use Rattle.std.specs.BTreeSet.{keys_between}
use Rattle.std.specs.Ordering.{is_gt}
use Rattle.std.specs.declared.ops.Bound.TheVariants.{Included, Excluded}
use Rattle.reg_entries.specs.Index.{name_cmp}
use Rattle.reg_entries.proofs.Doubled.{forward}
use Rattle.reg_entries.proofs.names.names_of.Goals as goal

pub range-requires : goal.range-requires
range-requires c = (λ i. is_gt (name_cmp (c.first_name-first.ensures i) (c.name_above-above.ensures i))) ∙ forward c.args.id

pub returns-clause-names : goal.returns-clause-names
returns-clause-names c =
    c.range.ensures.between tt
    ∙ (λ i. keys_between name_cmp (Included (c.first_name-first.ensures i)) (Excluded (c.name_above-above.ensures i)) c.args.names.now)
