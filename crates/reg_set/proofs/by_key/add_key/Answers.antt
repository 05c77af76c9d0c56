use Rattle.std.proofs.Common.{Some, [], ◌∷◌, ◌++◌, refl, sym, ap, subst, ◌∙◌}
use Rattle.std.specs.BTreeMap.{Updates}
use Rattle.reg_records.specs.declared.key.Key.{Key}
use Rattle.reg_set.specs.RecordOrder.{key_cmp}
use Rattle.reg_set.specs.Records.{placed}
use Rattle.reg_set.proofs.Indexed.{key_copy, record_copy}
use Rattle.reg_set.proofs.Listed.{IsTakenIn-updated}
use Rattle.reg_set.proofs.by_key.add_key.Goals as goal

pub returns-clause-added : goal.returns-clause-added
returns-clause-added c =
    let r = c.args.given.now in
    let m = c.args.by_key.now in
    let n = c.insert.new.self in
    let key = key_copy _ _ c.in_ok-key.ensures.cases in
    let copy = record_copy _ _ c.in_ok-clone.ensures.cases in
    let P : Key → Type 0 = λ k. Updates key_cmp m n k (Some c.push.new.self) in
    IsTakenIn-updated m n r.key c.push.new.self (subst P key c.in_ok-insert.ensures.updates) r refl
    (c.in_ok-push.ensures.items ∙ (λ i. c.new-records.ensures.items i ++ copy i ∷ []) ∙ sym (ap (placed r) c.requires.none))
