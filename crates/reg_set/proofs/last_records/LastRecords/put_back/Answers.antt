use Rattle.std.proofs.Common.{◌≡◌, IsSome, sym, ap, subst, ◌∙◌}
use Rattle.reg_set.specs.LastRecords.{last, with_last}
use Rattle.reg_set.proofs.ByKey.{set_of, last-set_of, compact-set_of, IsByKey-updated, last-updated}
use Rattle.reg_set.proofs.OneEach.{same_lasts, last-with_last, compact-with_last}
use Rattle.reg_set.proofs.last_records.LastRecords.put_back.Goals as goal

pub replace-requires : goal.replace-requires
replace-requires c =
    let key = c.args.key.now in
    subst IsSome (ap (λ s. last s key) (sym c.self.view_is) ∙ last-set_of c.self.inside.by_key c.self.invariant key) c.requires.there

pub invariant_of-self : goal.invariant_of-self
invariant_of-self c =
    IsByKey-updated c.self.inside.by_key c.replace.new.by_key c.self.invariant c.replace.ensures.in_order
    c.args.key.now c.args.before c.replace.ensures.replaced c.requires.of_key

pub returns : goal.returns
returns c =
    let key = c.args.key.now in
    let o = c.args.before in
    let m = c.self.inside.by_key in
    let n = c.replace.new.by_key in
    let compact = compact-set_of m c.self.invariant in
    let same : set_of n ≡ with_last (set_of m) key o =
    same_lasts (set_of n) (with_last (set_of m) key o) (compact-set_of n (invariant_of-self c))
    (compact-with_last (set_of m) key compact o c.requires.of_key)
    (λ q. last-updated m n c.self.invariant c.replace.ensures.in_order key o c.replace.ensures.replaced c.requires.of_key q
    ∙ sym (last-with_last (set_of m) key o c.requires.of_key q)) in
    same ∙ ap (λ s. with_last s key o) c.self.view_is
