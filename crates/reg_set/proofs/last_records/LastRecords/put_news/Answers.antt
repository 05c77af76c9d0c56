use Rattle.std.proofs.Common.{◌≡◌, Some, IsSome, cond, refl, sym, ap, subst, ◌∙◌, rules}
use Rattle.std.specs.FinSet as set
use Rattle.std.specs.Ordering.{is_eq}
use Rattle.reg_set.specs.LastRecords.{last, last_records}
use Rattle.reg_set.specs.RecordOrder.{key_cmp}
use Rattle.reg_set.specs.Records.{Records}
use Rattle.reg_set.proofs.ByKey.{set_of, last-set_of, compact-set_of, IsByKey-updated, last-updated}
use Rattle.reg_set.proofs.KeptLasts.{last_of_last_records}
use Rattle.reg_set.proofs.OneEach.{same_lasts, compact_lasts, is_new-from_change, last-new, there-inserted, taken_back}
use Rattle.reg_set.proofs.last_records.LastRecords.put_news.Goals as goal

pub invariant_of-self-2 : goal.invariant_of-self-2
invariant_of-self-2 c =
    IsByKey-updated c.self.inside.by_key c.insert_copy.new.by_key c.self.invariant c.in_ok-before.ensures.in_order c.args.given.now.key
    (Some c.args.given.now) c.in_ok-before.ensures.put refl

pub returns-clause-added : goal.returns-clause-added
returns-clause-added c =
    let S = c.args.self.now in
    let r = c.args.given.now in
    let m = c.self.inside.by_key in
    let n = c.insert_copy.new.by_key in
    let P : Records → Type 0 = λ s. last_records s ≡ s in
    let compact : last_records S ≡ S = subst P c.self.view_is (compact-set_of m c.self.invariant) in
    let new = is_new-from_change S r compact c.requires in
    same_lasts (set_of n) (last_records (set.insert S r)) (compact-set_of n (invariant_of-self-2 c)) (compact_lasts (set.insert S r))
    (λ q. last-updated m n c.self.invariant c.in_ok-before.ensures.in_order r.key (Some r) c.in_ok-before.ensures.put refl q
    ∙ ap (λ s. cond (is_eq (key_cmp r.key q)) (Some r) (last s q)) c.self.view_is
    ∙ sym (last_of_last_records (set.insert S r) q ∙ last-new S r new q))

pub returns-clause-there : goal.returns-clause-there
returns-clause-there c =
    let S = c.args.self.now in
    let r = c.args.given.now in
    subst (λ s. IsSome (last s r.key)) (sym (returns-clause-added c)) (there-inserted S r)

pub returns-clause-before : goal.returns-clause-before
returns-clause-before c =
    let r = c.args.given.now in
    c.in_ok-before.ensures.before ∙ sym (last-set_of c.self.inside.by_key c.self.invariant r.key) ∙ ap (λ s. last s r.key) c.self.view_is

pub returns-clause-taken_back : goal.returns-clause-taken_back
returns-clause-taken_back c =
    let S = c.args.self.now in
    let r = c.args.given.now in
    let m = c.self.inside.by_key in
    let n = c.insert_copy.new.by_key in
    let P : Records → Type 0 = λ s. last_records s ≡ s in
    let compact : last_records S ≡ S = subst P c.self.view_is (compact-set_of m c.self.invariant) in
    taken_back S (set_of n) r.key c.in_ok-before.before (Some r) compact (compact-set_of n (invariant_of-self-2 c)) (search rules)
    (returns-clause-before c)
    (λ q. last-updated m n c.self.invariant c.in_ok-before.ensures.in_order r.key (Some r) c.in_ok-before.ensures.put refl q
    ∙ ap (λ s. cond (is_eq (key_cmp r.key q)) (Some r) (last s q)) c.self.view_is)
