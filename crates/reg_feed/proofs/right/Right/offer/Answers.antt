use Rattle.std.proofs.Common.{◌≡◌, ◌+◌, ◌*◌, ◌<◌, ap, ap₂, sym, refl, subst, ◌∙◌, length, List, arith}
use Rattle.logbook.specs.Pages.{step}
use mathlib.Core.List.{IsPrefix}
use Rattle.reg_feed.specs.declared.entry.FeedEntry.{FeedEntry}
use Rattle.reg_feed.specs.History.{shown_of, offered_of, pens_of}
use Rattle.reg_feed.proofs.Moving.{turn_moves}
use Rattle.reg_feed.proofs.Rights.{open_fit, offered}
use Rattle.reg_feed.proofs.right.Right.offer.Goals as goal

pub compare_exchange-requires : goal.compare_exchange-requires
compare_exchange-requires g c =
    let h = c.args.history.now.gate_is in
    let was = c.self.inside.reached.log in
    let all = c.whole.inside.reached.log in
    let v = c.learn.new.self.log in
    let seen = c.again-reached.ensures in
    let offer = c.plain-offer.ensures in
    let inv = c.self.invariant in
    let here = ap (λ w. w.book) h in
    let book = c.learn.ensures.0 ∙ (ap (λ s. s.book) seen ∙ (inv.2 ∙ sym here)) in
    let in_v : IsPrefix was v = subst (λ (l : List (FeedEntry g.row.T.Denot)). IsPrefix l v) (ap (λ s. s.log) seen) c.learn.ensures.2 in
    let shut : offered_of was ≡ shown_of was = ap (λ t. t.1) c.self.view_is ∙ (sym c.requires.shut ∙ sym (ap (λ t. t.0) c.self.view_is)) in
    let less : c.self.inside.count < c.whole.inside.count =
    omega (arith, inv.0, c.whole.invariant.0, ap (λ t. length t.0) c.self.view_is, ap length c.whole.view_is, c.requires.longer) in (
      ap (λ w. w.tracked) h,
      book,
      inv.3 ∙ sym here,
      offer.0,
      rw (ap (λ w. w.key) h, offer.1, offer.3)
          (turn_moves was v c.self.inside.pen.nib inv.5.0 c.whole.inside.count c.pen.result.nib.key (2 * c.self.inside.count + 2) (2 * c.whole.inside.count + 1)
          in_v inv.4 inv.5.1
          (open_fit was all v c.pen.result.nib.key c.self.inside.pen.nib.key inv.5.0 c.self.inside.count c.whole.inside.count c.learn.ensures.3 shut inv.5.1
          (sym inv.0) (sym c.whole.invariant.0) less)),
    )

pub invariant_of-self : goal.invariant_of-self
invariant_of-self g c =
    let was = c.self.inside.reached.log in
    let all = c.whole.inside.reached.log in
    let v = c.learn.new.self.log in
    let w = c.compare_exchange.new.seen.log in
    let seen = c.again-reached.ensures in
    let inv = c.self.invariant in
    let in_v : IsPrefix was v = subst (λ (l : List (FeedEntry g.row.T.Denot)). IsPrefix l v) (ap (λ s. s.log) seen) c.learn.ensures.2 in
    let shut : offered_of was ≡ shown_of was = ap (λ t. t.1) c.self.view_is ∙ (sym c.requires.shut ∙ sym (ap (λ t. t.0) c.self.view_is)) in
    let less : c.self.inside.count < c.whole.inside.count =
    omega (arith, inv.0, c.whole.invariant.0, ap (λ t. length t.0) c.self.view_is, ap length c.whole.view_is, c.requires.longer) in
    let then = c.compare_exchange.ensures.7 in
    let end = offered
    (step c.args.history.now.gate.key (2 * c.self.inside.count + 2) (2 * c.whole.inside.count + 1) c.plain-offer.result.ask)
    was all v then.0 w c.self.inside.pen.nib c.pen.result.nib.key c.compare_exchange.result inv.5.0 c.self.inside.count c.whole.inside.count
    refl c.plain-offer.ensures.1 in_v c.learn.ensures.3 shut inv.4 inv.5.1 (sym inv.0) (sym c.whole.invariant.0) less then.1 then.2 then.3 then.4 in (
      inv.0 ∙ sym (ap (λ l. length l) end.1),
      inv.1,
      c.compare_exchange.ensures.0 ∙ (c.learn.ensures.0 ∙ (ap (λ s. s.book) seen ∙ inv.2)),
      c.pen.ensures.0,
      c.pen.ensures.1,
      (pens_of was, end.3),
    )

pub returns : goal.returns
returns g c =
    let was = c.self.inside.reached.log in
    let all = c.whole.inside.reached.log in
    let v = c.learn.new.self.log in
    let w = c.compare_exchange.new.seen.log in
    let seen = c.again-reached.ensures in
    let inv = c.self.invariant in
    let in_v : IsPrefix was v = subst (λ (l : List (FeedEntry g.row.T.Denot)). IsPrefix l v) (ap (λ s. s.log) seen) c.learn.ensures.2 in
    let shut : offered_of was ≡ shown_of was = ap (λ t. t.1) c.self.view_is ∙ (sym c.requires.shut ∙ sym (ap (λ t. t.0) c.self.view_is)) in
    let less : c.self.inside.count < c.whole.inside.count =
    omega (arith, inv.0, c.whole.invariant.0, ap (λ t. length t.0) c.self.view_is, ap length c.whole.view_is, c.requires.longer) in
    let then = c.compare_exchange.ensures.7 in
    let end = offered
    (step c.args.history.now.gate.key (2 * c.self.inside.count + 2) (2 * c.whole.inside.count + 1) c.plain-offer.result.ask)
    was all v then.0 w c.self.inside.pen.nib c.pen.result.nib.key c.compare_exchange.result inv.5.0 c.self.inside.count c.whole.inside.count
    refl c.plain-offer.ensures.1 in_v c.learn.ensures.3 shut inv.4 inv.5.1 (sym inv.0) (sym c.whole.invariant.0) less then.1 then.2 then.3 then.4 in
    ap₂ (λ a b. (a, b)) (end.1 ∙ ap (λ t. t.0) c.self.view_is) (end.2 ∙ c.whole.view_is)
