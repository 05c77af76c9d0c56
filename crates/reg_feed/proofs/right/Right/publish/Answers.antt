use Rattle.std.proofs.Common.{◌≡◌, ◌+◌, ◌*◌, ◌<◌, ◌==◌, ◌∷◌, [], ap, ap₂, sym, refl, ◌∙◌, length, arith, append-nil}
use Rattle.logbook.specs.Pages.{step}
use mathlib.Core.List.{IsPrefix}
use Rattle.reg_feed.specs.History.{shown_of, offered_of}
use Rattle.reg_feed.proofs.Moving.{publish_moves}
use Rattle.reg_feed.proofs.Rights.{settled}
use Rattle.reg_feed.proofs.right.Right.publish.Goals as goal

pub compare_exchange-self-inside-requires : goal.compare_exchange-self-inside-requires
compare_exchange-self-inside-requires g c =
    let inv = c.self.invariant in
    let seen = c.again-reached.ensures in
    let h = c.args.history.now.gate_is in
    let offer = c.plain-offer.ensures in
    let here = ap (λ w. w.book) h in
    let book = ap (λ s. s.book) seen ∙ (inv.2 ∙ sym here) in (
      ap (λ w. w.tracked) h,
      book,
      inv.3 ∙ sym here,
      offer.0,
      rw (ap (λ w. w.key) h, offer.1, offer.3) (publish_moves c.again-reached.result.log c.self.inside.pen.nib c.whole.inside.count),
    )

pub invariant_of-self : goal.invariant_of-self
invariant_of-self g c =
    let was = c.self.inside.reached.log in
    let v = c.again-reached.result.log in
    let seen = c.again-reached.ensures in
    let inv = c.self.invariant in
    let in_v : IsPrefix was v = ([], append-nil was ∙ sym (ap (λ s. s.log) seen)) in
    let long : length (offered_of was) ≡ c.whole.inside.count =
    omega (arith, c.whole.invariant.0, ap (λ t. length t.1) c.self.view_is, ap length c.whole.view_is, ap length c.requires.offered) in
    let less : c.self.inside.count < c.whole.inside.count =
    omega (arith, inv.0, c.whole.invariant.0, ap (λ t. length t.0) c.self.view_is, ap length c.whole.view_is, c.requires.open) in
    let all : offered_of was ≡ c.args.whole.now = ap (λ t. t.1) c.self.view_is ∙ c.requires.offered in
    let then = c.compare_exchange-self-inside.ensures.7 in
    let less_was : length (shown_of was) < c.whole.inside.count = omega (arith, inv.0, less) in
    let end = settled (step c.args.history.now.gate.key (2 * c.whole.inside.count + 1) (2 * c.whole.inside.count + 2) c.plain-offer.result.ask)
    was v then.0 c.compare_exchange-self-inside.new.seen.log c.self.inside.pen.nib c.compare_exchange-self-inside.result inv.5.0 c.whole.inside.count
    (c.compare_exchange-self-inside.result == 2 * c.whole.inside.count + 1) refl
    refl c.plain-offer.ensures.1 in_v inv.4 inv.5.1 long less_was then.1 then.2 then.3 then.4 in
    let pen = then.5 in (
      c.whole.invariant.0 ∙ ap length c.whole.view_is ∙ sym (ap length (end.0 ∙ all)),
      c.whole.invariant.2,
      c.compare_exchange-self-inside.ensures.0 ∙ (ap (λ s. s.book) seen ∙ inv.2),
      c.compare_exchange-self-inside.ensures.5 ∙ inv.3,
      ap (λ n. n.right) pen ∙ inv.4,
      (inv.5.0, end.2 ∙ (inv.5.1 ∙ ap (λ n. n.key ∷ inv.5.0) (sym pen))),
    )

pub returns : goal.returns
returns g c =
    let was = c.self.inside.reached.log in
    let v = c.again-reached.result.log in
    let seen = c.again-reached.ensures in
    let inv = c.self.invariant in
    let in_v : IsPrefix was v = ([], append-nil was ∙ sym (ap (λ s. s.log) seen)) in
    let long : length (offered_of was) ≡ c.whole.inside.count =
    omega (arith, c.whole.invariant.0, ap (λ t. length t.1) c.self.view_is, ap length c.whole.view_is, ap length c.requires.offered) in
    let less : c.self.inside.count < c.whole.inside.count =
    omega (arith, inv.0, c.whole.invariant.0, ap (λ t. length t.0) c.self.view_is, ap length c.whole.view_is, c.requires.open) in
    let all : offered_of was ≡ c.args.whole.now = ap (λ t. t.1) c.self.view_is ∙ c.requires.offered in
    let then = c.compare_exchange-self-inside.ensures.7 in
    let less_was : length (shown_of was) < c.whole.inside.count = omega (arith, inv.0, less) in
    let end = settled (step c.args.history.now.gate.key (2 * c.whole.inside.count + 1) (2 * c.whole.inside.count + 2) c.plain-offer.result.ask)
    was v then.0 c.compare_exchange-self-inside.new.seen.log c.self.inside.pen.nib c.compare_exchange-self-inside.result inv.5.0 c.whole.inside.count
    (c.compare_exchange-self-inside.result == 2 * c.whole.inside.count + 1) refl
    refl c.plain-offer.ensures.1 in_v inv.4 inv.5.1 long less_was then.1 then.2 then.3 then.4 in
    ap₂ (λ a b. (a, b)) (end.0 ∙ all) (end.1 ∙ all)
