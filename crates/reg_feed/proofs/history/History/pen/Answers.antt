use Rattle.std.proofs.Common.{sym, ◌∙◌, ap}
use Rattle.reg_feed.proofs.Moving.{take_moves}
use Rattle.reg_feed.proofs.history.History.pen.Goals as goal

pub compare_exchange-requires : goal.compare_exchange-requires
compare_exchange-requires g c =
    let h = c.args.self.now.gate_is in
    let seen = c.again-reached.ensures in
    let offer = c.plain-offer.ensures in
    let pen = c.no_pen-pen.ensures in
    let book = ap (λ s. s.book) seen ∙ (c.requires ∙ sym (ap (λ w. w.book) h)) in (
      ap (λ w. w.tracked) h,
      book,
      pen.0 ∙ book,
      offer.0,
      rw (ap (λ w. w.key) h, pen.1, offer.3) (take_moves c.again-reached.result.log c.plain-offer.result.ask),
    )
