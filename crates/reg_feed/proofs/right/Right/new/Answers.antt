use Rattle.std.proofs.Common.{[], ap, ap₂, sym, refl, ◌∙◌, length, arith}
use Rattle.logbook.specs.Pages.{step}
use Rattle.reg_feed.proofs.Moving.{begin_moves}
use Rattle.reg_feed.proofs.Rights.{began}
use Rattle.reg_feed.proofs.right.Right.new.Goals as goal

pub compare_exchange-found-requires : goal.compare_exchange-found-requires
compare_exchange-found-requires g c =
    let h = c.args.history.now.gate_is in
    let seen = c.again-reached.ensures in
    let offer = c.plain-offer.ensures in
    let pen = c.no_pen-none.ensures in
    let book = ap (λ s. s.book) seen ∙ (c.origin.invariant.1 ∙ sym (ap (λ w. w.book) h)) in (
      ap (λ w. w.tracked) h,
      book,
      pen.0 ∙ book,
      offer.0,
      rw (ap (λ w. w.key) h, pen.1, offer.1, offer.3) (begin_moves c.again-reached.result.log c.pen.result.nib.key),
    )

pub invariant_of-result : goal.invariant_of-result
invariant_of-result g c =
    let then = c.compare_exchange-found.ensures.7 in
    let end = began (step c.args.history.now.gate.key 0 2 c.plain-offer.result.ask) then.0 c.compare_exchange-found.new.seen.log c.pen.result.nib.key
    c.compare_exchange-found.result refl c.plain-offer.ensures.1 then.2 then.3 c.if-found-ne0.false in (
      sym (ap (λ l. length l) end.0),
      omega arith,
      c.compare_exchange-found.ensures.0 ∙ (ap (λ s. s.book) c.again-reached.ensures ∙ c.origin.invariant.1),
      c.pen.ensures.0,
      c.pen.ensures.1,
      ([], end.2),
    )

pub returns : goal.returns
returns g c =
    let then = c.compare_exchange-found.ensures.7 in
    let end = began (step c.args.history.now.gate.key 0 2 c.plain-offer.result.ask) then.0 c.compare_exchange-found.new.seen.log c.pen.result.nib.key
    c.compare_exchange-found.result refl c.plain-offer.ensures.1 then.2 then.3 c.if-found-ne0.false in
    ap₂ (λ a b. (a, b)) end.0 end.1
