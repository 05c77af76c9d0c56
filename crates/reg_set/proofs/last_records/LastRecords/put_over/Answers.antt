use Rattle.std.proofs.Common.{◌≡◌, Some, IfSome, IsSome, cond, refl, sym, ap, subst, ◌∙◌}
use Rattle.std.specs.FinSet as set
use Rattle.std.specs.Ordering.{is_eq}
use Rattle.reg_set.specs.LastRecords.{last, last_records}
use Rattle.reg_set.specs.RecordOrder.{key_cmp}
use Rattle.reg_set.specs.Records.{Records}
use Rattle.reg_set.proofs.ByKey.{set_of, last-set_of, compact-set_of, IsByKey-updated, last-updated}
use Rattle.reg_set.proofs.KeptLasts.{last_of_last_records}
use Rattle.reg_set.proofs.OneEach.{same_lasts, compact_lasts, is_new-from_change, last-new}
use Rattle.reg_set.proofs.last_records.LastRecords.put_over.Goals as goal

pub exchange-requires : goal.exchange-requires
exchange-requires c =
    let key = c.args.given.key in
    subst IsSome (ap (λ s. last s key) (sym c.self.view_is) ∙ last-set_of c.self.inside.by_key c.self.invariant key) c.requires.there

pub invariant_of-self : goal.invariant_of-self
invariant_of-self c =
    IsByKey-updated c.self.inside.by_key c.exchange.new.by_key c.self.invariant c.exchange.ensures.in_order c.args.given.key
    (Some c.args.given) c.exchange.ensures.put refl

pub returns-clause-added : goal.returns-clause-added
returns-clause-added c =
    let S = c.args.self.now in
    let r = c.args.given in
    let m = c.self.inside.by_key in
    let n = c.exchange.new.by_key in
    let P : Records → Type 0 = λ s. last_records s ≡ s in
    let compact : last_records S ≡ S = subst P c.self.view_is (compact-set_of m c.self.invariant) in
    let new = is_new-from_change S r compact c.requires.news in
    same_lasts (set_of n) (last_records (set.insert S r)) (compact-set_of n (invariant_of-self c)) (compact_lasts (set.insert S r))
    (λ q. last-updated m n c.self.invariant c.exchange.ensures.in_order r.key (Some r) c.exchange.ensures.put refl q
    ∙ ap (λ s. cond (is_eq (key_cmp r.key q)) (Some r) (last s q)) c.self.view_is
    ∙ sym (last_of_last_records (set.insert S r) q ∙ last-new S r new q))

pub returns-clause-of_key : goal.returns-clause-of_key
returns-clause-of_key c =
    let key = c.args.given.key in
    subst (λ o. IfSome o (λ q. q.key ≡ key)) c.exchange.ensures.before (c.self.invariant.of_keys key)

pub returns-clause-before : goal.returns-clause-before
returns-clause-before c =
    let key = c.args.given.key in
    sym (ap (λ s. last s key) c.self.view_is) ∙ last-set_of c.self.inside.by_key c.self.invariant key ∙ c.exchange.ensures.before
