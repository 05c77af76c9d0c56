use Rattle.std.proofs.Common.{◌≡◌, ◌&&◌, ◌==◌, false, ◌∙◌, rules, tests}
use Rattle.std.specs.BTreeSet.{contains}
use Rattle.std.specs.Ordering.{eq_by_cmp}
use Rattle.reg_entries.specs.Index.{name_of, name_cmp}
use Rattle.reg_entries.proofs.Indexed.{forgotten}
use Rattle.reg_entries.proofs.names.forget_other.Goals as goal

pub returns-then-own-id : goal.returns-then-own-id
returns-then-own-id c = λ n.
    let apart : (c.args.entry.id == c.args.id && c.args.entry.offset == c.args.offset) ≡ false = search (rules, tests) in
    c.forget.ensures n ∙ forgotten (eq_by_cmp name_cmp (name_of c.args.entry) n) (contains name_cmp c.args.names.now n) _ apart
