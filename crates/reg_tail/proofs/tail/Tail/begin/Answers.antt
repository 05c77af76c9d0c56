use Rattle.std.proofs.Common.{rules, ◌≡◌, ◌-◌, List, ℕ, length, take, drop, sym, ap, subst, ◌∙◌}
use Rattle.std.proofs.lemmas.List.{take_rest}
use Rattle.reg_tail.specs.Front.{HasFloorAbove}
use Rattle.reg_tail.specs.Gathered.{BeginsFrom}
use Rattle.reg_tail.specs.Tail.{HasGiven, IsBeginRefusal}
use Rattle.reg_tail.proofs.Given.{begin_refused, behind_front, has_given}
use Rattle.reg_tail.proofs.tail.Tail.begin.Goals as goal

pub returns-in_err-begun-clause-refused : goal.returns-in_err-begun-clause-refused
returns-in_err-begun-clause-refused g c known =
    let file = g.S.Source.seen c.read.new.source in
    let same : c.deref.result.now ≡ file = c.deref.ensures.value ∙ c.in_ok-file.ensures.bytes known in
    let bad = subst (λ (f : List ℕ). IsBeginRefusal c.args.from f c.in_err-begun.field-0.0) same c.in_err-begun.ensures.refused in
    search (rules, bad)

pub returns-in_err-tail-clause-refused : goal.returns-in_err-tail-clause-refused
returns-in_err-tail-clause-refused g c known =
    let file = g.S.Source.seen c.read.new.source in
    let same : c.deref.result.now ≡ file = c.deref.ensures.value ∙ c.in_ok-file.ensures.bytes known in
    let again : c.deref-2.result.now ≡ file = c.deref-2.ensures.value ∙ c.in_ok-file.ensures.bytes known in
    let begun = c.in_ok-begun.begun in
    let is = subst (λ (f : List ℕ). BeginsFrom c.args.from f begun) same c.in_ok-begun.ensures.begun in
    let text = c.deref-2.result.now in
    let piece : take (length text - begun.tail.place) (drop begun.tail.place text) ≡ is.rest =
    take_rest text begun.tail.place ∙ ap (drop begun.tail.place) again ∙ behind_front c.args.from file begun is in
    let bad = begin_refused c.args.from file begun is
    (take (length text - begun.tail.place) (drop begun.tail.place text)) c.in_err-tail.field-0.0 piece c.in_err-tail.ensures.refused in
    search (rules, bad)

pub returns-clause-given : goal.returns-clause-given
returns-clause-given g c known =
    let file = g.S.Source.seen c.read.new.source in
    let same : c.deref.result.now ≡ file = c.deref.ensures.value ∙ c.in_ok-file.ensures.bytes known in
    let again : c.deref-2.result.now ≡ file = c.deref-2.ensures.value ∙ c.in_ok-file.ensures.bytes known in
    let stays = (c.in_ok-sync.ensures.seen (c.read.ensures.stand known).0).1 in
    let begun = c.in_ok-begun.begun in
    let is = subst (λ (f : List ℕ). BeginsFrom c.args.from f begun) same c.in_ok-begun.ensures.begun in
    let text = c.deref-2.result.now in
    let taken = c.in_ok-tail.ensures.taken in
    let piece : take (length text - begun.tail.place) (drop begun.tail.place text) ≡ is.rest =
    take_rest text begun.tail.place ∙ ap (drop begun.tail.place) again ∙ behind_front c.args.from file begun is in
    let new = c.in_ok-tail.field-0 in
    subst (λ (f : List ℕ). HasGiven new.tail f new.text.items) (sym stays)
    (has_given c.args.from file begun is (take (length text - begun.tail.place) (drop begun.tail.place text)) taken.0 new piece taken.1)

pub returns-clause-floor : goal.returns-clause-floor
returns-clause-floor g c known floor above =
    let file = g.S.Source.seen c.read.new.source in
    let same : c.deref.result.now ≡ file = c.deref.ensures.value ∙ c.in_ok-file.ensures.bytes known in
    let stays = (c.in_ok-sync.ensures.seen (c.read.ensures.stand known).0).1 in
    c.in_ok-begun.ensures.begun.fits floor (subst (λ (f : List ℕ). HasFloorAbove c.args.from f floor) (stays ∙ sym same) above)
