use Rattle.std.proofs.Common.{Some, ap, ◌∙◌, subst}
use Rattle.std.specs.BTreeMap.{Updates}
use Rattle.reg_records.specs.declared.key.Key.{Key}
use Rattle.reg_set.specs.Index.{last_at}
use Rattle.reg_set.specs.RecordOrder.{key_cmp}
use Rattle.reg_set.proofs.Indexed.{key_copy, record_copy}
use Rattle.reg_set.proofs.last_records.insert_copy.Goals as goal

pub returns-clause-put : goal.returns-clause-put
returns-clause-put c =
    let key = key_copy _ _ c.in_ok-key.ensures.cases in
    let copy = record_copy _ _ c.in_ok-last.ensures.cases in
    let m = c.args.by_key.now in
    let n = c.insert.new.self in
    let P : Key → Type 0 = λ k. Updates key_cmp m n k (Some c.args.given.now) in
    subst P key (subst (λ r. Updates key_cmp m n c.in_ok-key.key (Some r)) copy c.in_ok-insert.ensures.updates)

pub returns-clause-before : goal.returns-clause-before
returns-clause-before c =
    c.in_ok-insert.ensures.old ∙ ap (last_at c.args.by_key.now) (key_copy _ _ c.in_ok-key.ensures.cases)
