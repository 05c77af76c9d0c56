use Rattle.std.proofs.Common.{◌≡◌, ◌∙◌, ap, Some, rules}
use Rattle.std.proofs.lemmas.Map.Text.{btree_map_updates_text}
use Rattle.std.specs.BTreeMap.{get_by_text}
use Rattle.std.specs.Prelude.{string_bytes, List, ℕ, bytes_eq, if◌then◌else◌}
use Rattle.reg_fold.proofs.scoped.put_text.Goals as goal

pub returns-clause-put : goal.returns-clause-put
returns-clause-put g c =
    let key = string_bytes c.in_ok-name.name in
    let same : key ≡ c.args.subject.now = search rules in
    let after = btree_map_updates_text key c.args.owns.now c.insert.new.self (Some c.args.own) c.in_ok-insert.ensures.updates in
    λ s. after s ∙ ap (λ (k : List ℕ). if bytes_eq k s then Some c.args.own else get_by_text c.args.owns.now s) same
