use Rattle.std.proofs.Common.{◌+◌, [], ◌∙◌}
use Rattle.std.specs.BTreeSet.{keys_between}
use Rattle.std.specs.Ordering.{is_gt}
use Rattle.std.specs.declared.ops.Bound.TheVariants.{Included, Excluded}
use Rattle.reg_entries.specs.Meanings.{meaning_cmp}
use Rattle.reg_entries.proofs.Meant.{forward}
use Rattle.reg_entries.proofs.meanings.texts_of.Goals as goal

pub range-requires : goal.range-requires
range-requires c =
    (λ i. is_gt (meaning_cmp (c.first_meaning-first.ensures i) (c.first_meaning-above.ensures i)))
    ∙ (λ i. is_gt (meaning_cmp (c.from-id.ensures i, []) (c.from-id.ensures i + 1, [])))
    ∙ forward c.args.id

pub returns-clause-texts : goal.returns-clause-texts
returns-clause-texts c =
    c.range.ensures.between tt
    ∙ (λ i.
    keys_between meaning_cmp (Included (c.first_meaning-first.ensures i))
    (Excluded (c.first_meaning-above.ensures i)) c.args.meanings.now)
    ∙ (λ i. keys_between meaning_cmp (Included (c.from-id.ensures i, [])) (Excluded (c.from-id.ensures i + 1, [])) c.args.meanings.now)
