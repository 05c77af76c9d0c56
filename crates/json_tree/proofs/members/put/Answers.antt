-- A name above those of the members goes last.
use Rattle.std.proofs.Common.{◌≡◌, ◌-◌, ◌++◌, ◌∷◌, [], MatchOption, true, length, slice_get, sym, ap, ◌∙◌, subst, is_lt, nat_cmp, rules}
use Rattle.std.specs.Cmp.Lexicographic.{slice_cmp}
use Rattle.json_tree.specs.Members.{IsInOrder}
use Rattle.json_tree.specs.View.{Entry, view, members_view}
use Rattle.json_tree.proofs.Order.{IsInOrder-put, put_at_end}
use Rattle.json_tree.proofs.members.put.Goals as goal

pub returns-then-is_last-clause-value : goal.returns-then-is_last-clause-value
returns-then-is_last-clause-value c =
    let xs = c.args.members.now.items in
    let pushed : c.push.new.self.items ≡ xs ++ (c.args.name, c.args.value) ∷ [] = search rules in
    let last =
    subst (λ ys. MatchOption (slice_get ys (length ys - 1)) (true ≡ true) (λ (m : Entry). true ≡ is_lt (slice_cmp nat_cmp m.0.now c.args.name.now)))
    c.deref.ensures.value
    (subst (λ b. MatchOption (slice_get c.deref.result.now (length c.deref.result.now - 1)) (b ≡ true)
    (λ (m : Entry). b ≡ is_lt (slice_cmp nat_cmp m.0.now c.args.name.now))) c.if-is_last.true c.is_last.ensures) in
    ap members_view pushed ∙ put_at_end c.args.name c.args.value (c.args.name, c.args.value) xs c.requires last

pub returns-then-is_last-clause-order : goal.returns-then-is_last-clause-order
returns-then-is_last-clause-order c =
    subst IsInOrder (sym (returns-then-is_last-clause-value c)) (IsInOrder-put c.args.name.now (view c.args.value) _ c.requires)
