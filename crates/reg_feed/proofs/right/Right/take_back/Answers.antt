use Rattle.std.proofs.Common.{◌≡◌, ◌+◌, ◌*◌, ◌<◌, ◌∷◌, [], ap, ap₂, sym, refl, ◌∙◌, length, arith, append-nil}
use Rattle.logbook.specs.Pages.{step}
use mathlib.Core.List.{IsPrefix}
use Rattle.reg_feed.specs.History.{shown_of, offered_of, pens_of}
use Rattle.reg_feed.proofs.Moving.{turn_moves}
use Rattle.reg_feed.proofs.Rights.{close_fit, closed, closed_late, pen_kept}
use Rattle.reg_feed.proofs.right.Right.take_back.Goals as goal

pub compare_exchange-found-requires : goal.compare_exchange-found-requires
compare_exchange-found-requires g c =
    let was = c.self.inside.reached.log in
    let v = c.again-reached.result.log in
    let seen = c.again-reached.ensures in
    let inv = c.self.invariant in
    let in_v : IsPrefix was v = ([], append-nil was ∙ sym (ap (λ s. s.log) seen)) in
    let long : length (offered_of was) ≡ c.whole.inside.count =
    omega (arith, c.whole.invariant.0, ap (λ t. length t.1) c.self.view_is, ap length c.whole.view_is, ap length c.requires.offered) in
    let less : c.self.inside.count < c.whole.inside.count =
    omega (arith, inv.0, c.whole.invariant.0, ap (λ t. length t.0) c.self.view_is, ap length c.whole.view_is, c.requires.open) in
    let h = c.args.history.now.gate_is in
    let offer = c.plain-offer.ensures in
    let here = ap (λ w. w.book) h in
    let book = ap (λ s. s.book) seen ∙ (inv.2 ∙ sym here) in (
      ap (λ w. w.tracked) h,
      book,
      inv.3 ∙ sym here,
      offer.0,
      rw (ap (λ w. w.key) h, offer.1, offer.3)
          (turn_moves was v c.self.inside.pen.nib inv.5.0 c.self.inside.count c.pen.result.nib.key (2 * c.whole.inside.count + 1) (2 * c.self.inside.count + 2)
          in_v inv.4 inv.5.1
          (close_fit was v c.pen.result.nib.key c.self.inside.count c.whole.inside.count (sym inv.0) long less)),
    )

pub invariant_of-self : goal.invariant_of-self
invariant_of-self g c =
    let was = c.self.inside.reached.log in
    let v = c.again-reached.result.log in
    let seen = c.again-reached.ensures in
    let inv = c.self.invariant in
    let in_v : IsPrefix was v = ([], append-nil was ∙ sym (ap (λ s. s.log) seen)) in
    let long : length (offered_of was) ≡ c.whole.inside.count =
    omega (arith, c.whole.invariant.0, ap (λ t. length t.1) c.self.view_is, ap length c.whole.view_is, ap length c.requires.offered) in
    let less : c.self.inside.count < c.whole.inside.count =
    omega (arith, inv.0, c.whole.invariant.0, ap (λ t. length t.0) c.self.view_is, ap length c.whole.view_is, c.requires.open) in
    let all : offered_of was ≡ c.args.whole.now = ap (λ t. t.1) c.self.view_is ∙ c.requires.offered in
    let then = c.compare_exchange-found.ensures.7 in
    let less_was : length (shown_of was) < c.whole.inside.count = omega (arith, inv.0, less) in
    let end = closed_late (step c.args.history.now.gate.key (2 * c.whole.inside.count + 1) (2 * c.self.inside.count + 2) c.plain-offer.result.ask)
    was v then.0 c.compare_exchange-found.new.seen.log c.self.inside.pen.nib c.compare_exchange-found.result inv.5.0 c.whole.inside.count
    refl in_v inv.4 inv.5.1 long less_was then.1 then.2 then.3 then.4 c.if-found-whole.true in
    let pen = pen_kept (step c.args.history.now.gate.key (2 * c.whole.inside.count + 1) (2 * c.self.inside.count + 2) c.plain-offer.result.ask) c.compare_exchange-found.result c.compare_exchange-found.new.pen.nib c.self.inside.pen.nib c.if-found-whole.true then.5 in (
      c.whole.invariant.0 ∙ ap length c.whole.view_is ∙ sym (ap length (end.0 ∙ all)),
      c.whole.invariant.2,
      c.compare_exchange-found.ensures.0 ∙ (ap (λ s. s.book) seen ∙ inv.2),
      c.compare_exchange-found.ensures.5 ∙ inv.3,
      ap (λ n. n.right) pen ∙ inv.4,
      (inv.5.0, end.2 ∙ (inv.5.1 ∙ ap (λ n. n.key ∷ inv.5.0) (sym pen))),
    )

pub returns-then-found-whole : goal.returns-then-found-whole
returns-then-found-whole g c =
    let was = c.self.inside.reached.log in
    let v = c.again-reached.result.log in
    let seen = c.again-reached.ensures in
    let inv = c.self.invariant in
    let in_v : IsPrefix was v = ([], append-nil was ∙ sym (ap (λ s. s.log) seen)) in
    let long : length (offered_of was) ≡ c.whole.inside.count =
    omega (arith, c.whole.invariant.0, ap (λ t. length t.1) c.self.view_is, ap length c.whole.view_is, ap length c.requires.offered) in
    let less : c.self.inside.count < c.whole.inside.count =
    omega (arith, inv.0, c.whole.invariant.0, ap (λ t. length t.0) c.self.view_is, ap length c.whole.view_is, c.requires.open) in
    let all : offered_of was ≡ c.args.whole.now = ap (λ t. t.1) c.self.view_is ∙ c.requires.offered in
    let then = c.compare_exchange-found.ensures.7 in
    let less_was : length (shown_of was) < c.whole.inside.count = omega (arith, inv.0, less) in
    let end = closed_late (step c.args.history.now.gate.key (2 * c.whole.inside.count + 1) (2 * c.self.inside.count + 2) c.plain-offer.result.ask)
    was v then.0 c.compare_exchange-found.new.seen.log c.self.inside.pen.nib c.compare_exchange-found.result inv.5.0 c.whole.inside.count
    refl in_v inv.4 inv.5.1 long less_was then.1 then.2 then.3 then.4 c.if-found-whole.true in
    ap₂ (λ a b. (a, b)) (end.0 ∙ all) (end.1 ∙ all)

pub invariant_of-self-2 : goal.invariant_of-self-2
invariant_of-self-2 g c =
    let was = c.self.inside.reached.log in
    let v = c.again-reached.result.log in
    let seen = c.again-reached.ensures in
    let inv = c.self.invariant in
    let in_v : IsPrefix was v = ([], append-nil was ∙ sym (ap (λ s. s.log) seen)) in
    let long : length (offered_of was) ≡ c.whole.inside.count =
    omega (arith, c.whole.invariant.0, ap (λ t. length t.1) c.self.view_is, ap length c.whole.view_is, ap length c.requires.offered) in
    let less : c.self.inside.count < c.whole.inside.count =
    omega (arith, inv.0, c.whole.invariant.0, ap (λ t. length t.0) c.self.view_is, ap length c.whole.view_is, c.requires.open) in
    let all : offered_of was ≡ c.args.whole.now = ap (λ t. t.1) c.self.view_is ∙ c.requires.offered in
    let then = c.compare_exchange-found.ensures.7 in
    let end = closed (step c.args.history.now.gate.key (2 * c.whole.inside.count + 1) (2 * c.self.inside.count + 2) c.plain-offer.result.ask)
    was v then.0 c.compare_exchange-found.new.seen.log c.self.inside.pen.nib c.pen.result.nib.key c.compare_exchange-found.result inv.5.0 c.self.inside.count c.whole.inside.count
    refl c.plain-offer.ensures.1 in_v inv.4 inv.5.1 (sym inv.0) long less then.1 then.2 then.3 then.4 c.if-found-whole.false in (
      inv.0 ∙ sym (ap (λ l. length l) end.0),
      inv.1,
      c.compare_exchange-found.ensures.0 ∙ (ap (λ s. s.book) seen ∙ inv.2),
      c.pen.ensures.0,
      c.pen.ensures.1,
      (pens_of was, end.2),
    )

pub returns : goal.returns
returns g c =
    let was = c.self.inside.reached.log in
    let v = c.again-reached.result.log in
    let seen = c.again-reached.ensures in
    let inv = c.self.invariant in
    let in_v : IsPrefix was v = ([], append-nil was ∙ sym (ap (λ s. s.log) seen)) in
    let long : length (offered_of was) ≡ c.whole.inside.count =
    omega (arith, c.whole.invariant.0, ap (λ t. length t.1) c.self.view_is, ap length c.whole.view_is, ap length c.requires.offered) in
    let less : c.self.inside.count < c.whole.inside.count =
    omega (arith, inv.0, c.whole.invariant.0, ap (λ t. length t.0) c.self.view_is, ap length c.whole.view_is, c.requires.open) in
    let all : offered_of was ≡ c.args.whole.now = ap (λ t. t.1) c.self.view_is ∙ c.requires.offered in
    let then = c.compare_exchange-found.ensures.7 in
    let end = closed (step c.args.history.now.gate.key (2 * c.whole.inside.count + 1) (2 * c.self.inside.count + 2) c.plain-offer.result.ask)
    was v then.0 c.compare_exchange-found.new.seen.log c.self.inside.pen.nib c.pen.result.nib.key c.compare_exchange-found.result inv.5.0 c.self.inside.count c.whole.inside.count
    refl c.plain-offer.ensures.1 in_v inv.4 inv.5.1 (sym inv.0) long less then.1 then.2 then.3 then.4 c.if-found-whole.false in
    ap₂ (λ a b. (a, b)) (end.0 ∙ ap (λ t. t.0) c.self.view_is) (end.1 ∙ ap (λ t. t.0) c.self.view_is)
