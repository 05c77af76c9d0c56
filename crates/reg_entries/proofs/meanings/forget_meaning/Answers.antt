use Rattle.std.proofs.Common.{refl, ◌∙◌}
use Rattle.reg_entries.proofs.Meant.{doubled_refreshed, gone_others, gone_two}
use Rattle.reg_entries.proofs.meanings.forget_meaning.Goals as goal

pub returns-clause-doubled : goal.returns-clause-doubled
returns-clause-doubled c =
    let old = c.args.meanings.now in
    let new = c.remove.new.self in
    let gone = c.remove.ensures.updates.0 in
    doubled_refreshed old new c.args.doubled.now c.args.doubled.now c.refresh_doubled.new.doubled c.args.id c.requires.doubled
    (λ k apart. gone_others new old c.args.meaning.now gone k (λ same. apart (same ∙ c.requires.id)))
    (λ i apart. refl)
    (λ two. (c.requires.doubled c.args.id).1 (gone_two new old c.args.meaning.now gone c.args.id two))
    c.refresh_doubled.ensures
