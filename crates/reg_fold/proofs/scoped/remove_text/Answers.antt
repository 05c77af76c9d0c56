use Rattle.std.proofs.Common.{◌≡◌, ◌∙◌, ap, None, rules}
use Rattle.std.proofs.lemmas.Map.Text.{btree_map_updates_text}
use Rattle.std.specs.BTreeMap.{get_by_text}
use Rattle.std.specs.Prelude.{List, ℕ, bytes_eq, if◌then◌else◌}
use Rattle.reg_fold.proofs.scoped.remove_text.Goals as goal

pub returns : goal.returns
returns g c =
    let same : c.as_str.result.now ≡ c.args.subject.now = search rules in
    let after = btree_map_updates_text c.as_str.result.now c.args.owns.now c.remove.new.self None c.remove.ensures.updates in
    λ s. after s ∙ ap (λ (k : List ℕ). if bytes_eq k s then None else get_by_text c.args.owns.now s) same
