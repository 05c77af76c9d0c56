use Rattle.std.proofs.Common.{◌≡◌, ◌+◌, ◌*◌, ap, sym, refl, ◌∙◌, length}
use Rattle.logbook.specs.Pages.{step}
use Rattle.reg_feed.specs.History.{items_of, shown_of}
use Rattle.reg_feed.proofs.Moving.{publish_moves}
use Rattle.reg_feed.proofs.Rights.{published_now, published_before}
use Rattle.reg_feed.proofs.shown.Shown.with.Goals as goal

pub compare_exchange-found-requires : goal.compare_exchange-found-requires
compare_exchange-found-requires g c =
    let h = c.args.history.now.gate_is in
    let seen = c.again-reached.ensures in
    let offer = c.plain-offer.ensures in
    let pen = c.no_pen-pen.ensures in
    let book = ap (λ s. s.book) seen ∙ (c.front.invariant.1 ∙ sym (ap (λ w. w.book) h)) in (
      ap (λ w. w.tracked) h,
      book,
      pen.0 ∙ book,
      offer.0,
      rw (ap (λ w. w.key) h, offer.1, offer.3) (publish_moves c.again-reached.result.log c.no_pen-pen.result.nib c.front.inside.count),
    )

pub returns-then-found-count : goal.returns-then-found-count
returns-then-found-count g c =
    let seen = ap (λ s. s.log) c.again-reached.ensures in
    let count = c.front.inside.count in
    let v = c.again-reached.result.log in
    let long : length (items_of v) ≡ count = ap (λ l. length (items_of l)) seen ∙ sym c.front.invariant.0 in
    let then = c.compare_exchange-found.ensures.7 in
    let end : shown_of c.compare_exchange-found.new.seen.log ≡ items_of v =
    published_now (step c.args.history.now.gate.key (2 * count + 1) (2 * count + 2) c.plain-offer.result.ask) v then.0 c.compare_exchange-found.new.seen.log
    count c.compare_exchange-found.result refl c.plain-offer.ensures.1 long then.1 then.2 then.4 c.if-found-count.true in
    c.of.ensures ∙ (end ∙ (ap (λ l. items_of l) seen ∙ c.front.view_is))

pub returns-then-found-count-2 : goal.returns-then-found-count-2
returns-then-found-count-2 g c =
    let seen = ap (λ s. s.log) c.again-reached.ensures in
    let count = c.front.inside.count in
    let v = c.again-reached.result.log in
    let long : length (items_of v) ≡ count = ap (λ l. length (items_of l)) seen ∙ sym c.front.invariant.0 in
    let then = c.compare_exchange-found.ensures.7 in
    let end : shown_of c.compare_exchange-found.new.seen.log ≡ items_of v =
    published_before (step c.args.history.now.gate.key (2 * count + 1) (2 * count + 2) c.plain-offer.result.ask) v then.0 c.compare_exchange-found.new.seen.log
    count c.compare_exchange-found.result refl long then.1 then.2 then.4 c.if-found-count-2.true in
    c.of-then-found-count-2.ensures ∙ (end ∙ (ap (λ l. items_of l) seen ∙ c.front.view_is))
