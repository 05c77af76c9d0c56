use Rattle.std.proofs.Common.{◌≡◌, ◌∷◌, ap, ap₂, sym, subst, ◌∙◌, length, List}
use mathlib.Core.List.{IsPrefix}
use Rattle.reg_feed.specs.declared.entry.FeedEntry.{FeedEntry}
use Rattle.reg_feed.specs.History.{shown_of, offered_of}
use Rattle.reg_feed.proofs.Moving.{look_moves}
use Rattle.reg_feed.proofs.Rights.{all_known}
use Rattle.reg_feed.proofs.right.Right.covers.Goals as goal

pub compare_exchange-requires : goal.compare_exchange-requires
compare_exchange-requires g c =
    let inv = c.self.invariant in
    let seen = c.again-reached.ensures in
    let h = c.args.history.now.gate_is in
    let offer = c.plain-offer.ensures in
    let here = ap (λ w. w.book) h in
    let book = c.learn.ensures.0 ∙ (ap (λ s. s.book) seen ∙ (inv.2 ∙ sym here)) in (
      ap (λ w. w.tracked) h,
      book,
      inv.3 ∙ sym here,
      offer.0,
      rw (ap (λ w. w.key) h, offer.3) (look_moves c.learn.new.self.log c.self.inside.pen.nib c.plain-offer.result.ask),
    )

pub invariant_of-self : goal.invariant_of-self
invariant_of-self g c =
    let was = c.self.inside.reached.log in
    let one = c.shown.inside.reached.log in
    let v = c.learn.new.self.log in
    let seen = c.again-reached.ensures in
    let inv = c.self.invariant in
    let in_v : IsPrefix was v = subst (λ (l : List (FeedEntry g.row.T.Denot)). IsPrefix l v) (ap (λ s. s.log) seen) c.learn.ensures.2 in
    let shut : offered_of was ≡ shown_of was = ap (λ t. t.1) c.self.view_is ∙ (sym c.requires.shut ∙ sym (ap (λ t. t.0) c.self.view_is)) in
    let then = c.compare_exchange.ensures.7 in
    let end = all_known was one v then.0 c.compare_exchange.new.seen.log c.self.inside.pen.nib inv.5.0 in_v c.learn.ensures.3 shut inv.4 inv.5.1 then.1 then.3 then.4 in
    let pen = then.5 in (
      inv.0 ∙ sym (ap length end.1),
      inv.1,
      c.compare_exchange.ensures.0 ∙ (c.learn.ensures.0 ∙ (ap (λ s. s.book) seen ∙ inv.2)),
      c.compare_exchange.ensures.5 ∙ inv.3,
      ap (λ n. n.right) pen ∙ inv.4,
      (inv.5.0, end.3 ∙ (inv.5.1 ∙ ap (λ n. n.key ∷ inv.5.0) (sym pen))),
    )

pub returns-clause-same : goal.returns-clause-same
returns-clause-same g c =
    let was = c.self.inside.reached.log in
    let one = c.shown.inside.reached.log in
    let v = c.learn.new.self.log in
    let seen = c.again-reached.ensures in
    let inv = c.self.invariant in
    let in_v : IsPrefix was v = subst (λ (l : List (FeedEntry g.row.T.Denot)). IsPrefix l v) (ap (λ s. s.log) seen) c.learn.ensures.2 in
    let shut : offered_of was ≡ shown_of was = ap (λ t. t.1) c.self.view_is ∙ (sym c.requires.shut ∙ sym (ap (λ t. t.0) c.self.view_is)) in
    let then = c.compare_exchange.ensures.7 in
    let end = all_known was one v then.0 c.compare_exchange.new.seen.log c.self.inside.pen.nib inv.5.0 in_v c.learn.ensures.3 shut inv.4 inv.5.1 then.1 then.3 then.4 in
    ap₂ (λ a b. (a, b)) end.1 (end.2 ∙ sym shut) ∙ c.self.view_is

pub returns-clause-begins : goal.returns-clause-begins
returns-clause-begins g c =
    let was = c.self.inside.reached.log in
    let one = c.shown.inside.reached.log in
    let v = c.learn.new.self.log in
    let seen = c.again-reached.ensures in
    let inv = c.self.invariant in
    let in_v : IsPrefix was v = subst (λ (l : List (FeedEntry g.row.T.Denot)). IsPrefix l v) (ap (λ s. s.log) seen) c.learn.ensures.2 in
    let shut : offered_of was ≡ shown_of was = ap (λ t. t.1) c.self.view_is ∙ (sym c.requires.shut ∙ sym (ap (λ t. t.0) c.self.view_is)) in
    let then = c.compare_exchange.ensures.7 in
    let end = all_known was one v then.0 c.compare_exchange.new.seen.log c.self.inside.pen.nib inv.5.0 in_v c.learn.ensures.3 shut inv.4 inv.5.1 then.1 then.3 then.4 in
    subst (λ l. IsPrefix l c.args.self.now.0) c.shown.view_is
    (subst (λ l. IsPrefix (shown_of one) l) (ap (λ t. t.0) c.self.view_is) end.0)
