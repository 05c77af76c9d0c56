use Rattle.std.proofs.Common.{Some, sym, ap, subst, ◌∙◌, rules}
use Rattle.std.proofs.lemmas.Map.Text.{btree_map_updates_text}
use Rattle.std.specs.BTreeMap.{get_by_text}
use Rattle.std.specs.Prelude.{bytes_eq}
use Rattle.reg_entries.proofs.Topmost.{at_text, other_text}
use Rattle.reg_entries.proofs.tops.set_top.Goals as goal

pub returns-in-Some-clause-top : goal.returns-in-Some-clause-top
returns-in-Some-clause-top c = λ room.
    let key = c.as_str.result.now in
    let after = c.get_mut.follows.lender c.args.place in
    let updates = (c.get_mut.follows.holds c.args.place).3 (search rules) in
    ap (get_by_text after) (sym c.as_str.ensures)
    ∙ at_text c.args.tops.now after key _ (btree_map_updates_text key c.args.tops.now after _ updates)

pub returns-in-Some-clause-others : goal.returns-in-Some-clause-others
returns-in-Some-clause-others c = λ s apart.
    let key = c.as_str.result.now in
    let after = c.get_mut.follows.lender c.args.place in
    let updates = (c.get_mut.follows.holds c.args.place).3 (search rules) in
    other_text c.args.tops.now after key _ (btree_map_updates_text key c.args.tops.now after _ updates) s
    (ap (λ k. bytes_eq k s) c.as_str.ensures ∙ apart)
