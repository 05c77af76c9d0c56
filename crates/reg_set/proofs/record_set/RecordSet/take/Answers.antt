use Rattle.std.proofs.Common.{sym, ap, ◌∙◌, rules}
use Rattle.std.specs.FinSet.{contains, insert}
use Rattle.reg_set.specs.LastRecords.{last}
use Rattle.reg_set.proofs.Listed.{AreByKey-same, AreByKey-taken, contains-set_of, news-at, set_of-same, set_of-taken}
use Rattle.reg_set.proofs.OneEach.{is_new, news-differ, news-from_differing}
use Rattle.reg_set.proofs.record_set.RecordSet.take.Goals as goal

pub invariant_of-self : goal.invariant_of-self
invariant_of-self c =
    AreByKey-same c.self.inside.by_key c.take_in.new.by_key c.self.invariant c.take_in.ensures.in_order c.in_err-taken.ensures.refused

pub returns-in_err-taken-clause-refused : goal.returns-in_err-taken-clause-refused
returns-in_err-taken-clause-refused c =
    let same =
    set_of-same c.self.inside.by_key c.take_in.new.by_key c.self.invariant c.take_in.ensures.in_order c.in_err-taken.ensures.refused
    ∙ c.self.view_is in
    search (rules, same)

pub invariant_of-self-2 : goal.invariant_of-self-2
invariant_of-self-2 c =
    AreByKey-taken c.self.inside.by_key c.take_in.new.by_key c.self.invariant
    c.take_in.ensures.in_order c.args.given.now c.in_ok-taken.ensures.added

pub returns-clause-added : goal.returns-clause-added
returns-clause-added c =
    let r = c.args.given.now in
    set_of-taken c.self.inside.by_key c.take_in.new.by_key c.self.invariant c.take_in.ensures.in_order r c.in_ok-taken.ensures.added
    ∙ ap (λ s. insert s r) c.self.view_is

pub returns-clause-fresh : goal.returns-clause-fresh
returns-clause-fresh c =
    let S = c.args.self.now in
    let r = c.args.given.now in
    let m = c.self.inside.by_key in
    let at = news-at m c.self.invariant r ∙ ap (λ s. is_new (last s r.key) r) c.self.view_is in
    let added = ap (λ s. last s r.key) (returns-clause-added c) in (
      λ e same. news-differ S r (sym at ∙ c.in_ok-taken.ensures.fresh.0 e) (sym added ∙ same),
      λ differs. c.in_ok-taken.ensures.fresh.1 (at ∙ news-from_differing S r (λ same. differs (added ∙ same))),
    )

pub returns-clause-repeat : goal.returns-clause-repeat
returns-clause-repeat c =
    let r = c.args.given.now in
    let at = sym (ap (λ s. contains s r) c.self.view_is) ∙ contains-set_of c.self.inside.by_key c.self.invariant r in
    (λ e. at ∙ c.in_ok-taken.ensures.repeat.0 e, λ there. c.in_ok-taken.ensures.repeat.1 (sym at ∙ there))
