use Rattle.std.proofs.Common.{◌≡◌, Some, None, sym, ap, subst, ◌∙◌, rules}
use Rattle.reg_set.specs.Index.{last_at}
use Rattle.reg_set.specs.LastRecords.{last, last_records}
use Rattle.reg_set.specs.Records.{Records}
use Rattle.reg_set.proofs.ByKey.{last-set_of, compact-set_of}
use Rattle.reg_set.proofs.OneEach.{is_new, new-changes, old-stays}
use Rattle.reg_set.proofs.last_records.LastRecords.is_news.Goals as goal

pub returns-in-Some-clause-news : goal.returns-in-Some-clause-news
returns-in-Some-clause-news c = λ yes.
    let S = c.args.self.now in
    let r = c.args.given.now in
    let m = c.self.inside.by_key in
    let is : last_at m r.key ≡ Some c.in-Some.last.now = search rules in
    let there : last S r.key ≡ Some c.in-Some.last.now =
    ap (λ s. last s r.key) (sym c.self.view_is) ∙ last-set_of m c.self.invariant r.key ∙ is in
    new-changes S r (ap (λ o. is_new o r) there ∙ sym c.is_older.ensures ∙ yes)

pub returns-in-Some-clause-no_news : goal.returns-in-Some-clause-no_news
returns-in-Some-clause-no_news c = λ no.
    let S = c.args.self.now in
    let r = c.args.given.now in
    let m = c.self.inside.by_key in
    let is : last_at m r.key ≡ Some c.in-Some.last.now = search rules in
    let there : last S r.key ≡ Some c.in-Some.last.now =
    ap (λ s. last s r.key) (sym c.self.view_is) ∙ last-set_of m c.self.invariant r.key ∙ is in
    let P : Records → Type 0 = λ s. last_records s ≡ s in
    old-stays S r (subst P c.self.view_is (compact-set_of m c.self.invariant)) (ap (λ o. is_new o r) there ∙ sym c.is_older.ensures ∙ no)

pub returns-in-None-clause-news : goal.returns-in-None-clause-news
returns-in-None-clause-news c = λ yes.
    let S = c.args.self.now in
    let r = c.args.given.now in
    let m = c.self.inside.by_key in
    let is : last_at m r.key ≡ None = search rules in
    new-changes S r (ap (λ o. is_new o r) (ap (λ s. last s r.key) (sym c.self.view_is) ∙ last-set_of m c.self.invariant r.key ∙ is))
