use Rattle.std.proofs.Common.{true, ap, ◌∙◌}
use Rattle.std.specs.BTreeMap.{is_at}
use Rattle.std.specs.List.{list_any}
use Rattle.reg_entries.specs.Meanings.{meaning_cmp}
use Rattle.reg_entries.proofs.Meant.{added_others, doubled_refreshed, id_here, id_others}
use Rattle.reg_entries.proofs.meanings.mean.Goals as goal

pub returns-in_err-added-clause-doubled : goal.returns-in_err-added-clause-doubled
returns-in_err-added-clause-doubled c =
    let ids = c.in_ok-insert.ensures.updates.0 in
    let before = c.args.doubled.now in
    let mid = c.insert.new.self in
    let id = c.own-own.result.now.id in
    doubled_refreshed c.args.meanings.now c.insert-added.new.self before mid c.refresh_doubled.new.doubled id c.requires
    (λ k apart. ap (list_any (is_at (meaning_cmp k))) c.in_err-added.ensures.err)
    (id_others before mid id true ids)
    (λ two. id_here before mid id true ids)
    c.refresh_doubled.ensures

pub returns-clause-doubled : goal.returns-clause-doubled
returns-clause-doubled c =
    let ids = c.in_ok-insert.ensures.updates.0 in
    let before = c.args.doubled.now in
    let mid = c.insert.new.self in
    let id = c.own-own.result.now.id in
    doubled_refreshed c.args.meanings.now c.insert-added.new.self before mid c.refresh_doubled.new.doubled id c.requires
    (λ k apart.
    added_others c.insert-added.new.self c.args.meanings.now
    (c.from.result, c.in_ok-clone.field-0) c.in_ok-added.ensures.updates.0 k (λ same. apart (same ∙ c.from.ensures)))
    (id_others before mid id true ids)
    (λ two. id_here before mid id true ids)
    c.refresh_doubled.ensures
