use Rattle.std.proofs.Common.{◌≡◌, None, Some, ap, subst, ◌∙◌, rules}
use Rattle.std.specs.Prelude.{is_some}
use Rattle.reg_entries.specs.Index.{HasAt, entry_at}
use Rattle.reg_entries.proofs.Flags.{soft_at, soft_nowhere}
use Rattle.reg_entries.proofs.lists.set_soft.Goals as goal

pub returns-in-Some-clause-at : goal.returns-in-Some-clause-at
returns-in-Some-clause-at c =
    let m = c.args.entries.now in
    let e = c.in-Some.entry.now in
    let w = c.set_soft.new.self in
    let n = c.get_mut.follows.lender w in
    let found : entry_at m c.args.place.now ≡ Some e = search rules in
    soft_at m n c.args.place.now c.args.soft e found (
    subst (λ f. HasAt m n c.args.place.now (Some f)) c.set_soft.ensures ((c.get_mut.follows.holds w).3 (ap is_some found)).0)

pub returns-in_default-clause-at : goal.returns-in_default-clause-at
returns-in_default-clause-at c = λ q.
    let none : entry_at c.args.entries.now c.args.place.now ≡ None = search rules in
    ap (λ n. entry_at n q) c.get_mut.follows.holds-at-none
    ∙ soft_nowhere c.args.entries.now c.args.entries.now c.args.place.now c.args.soft none q
