use Rattle.std.proofs.Common.{◌≡◌, drop, ◌∙◌}
use Rattle.reg_tail.specs.Tail.{GoesOn}
use Rattle.reg_tail.proofs.Given.{given_on, goes_on}
use Rattle.reg_tail.proofs.tail.Tail.take_more.Goals as goal

pub returns-clause-whole : goal.returns-clause-whole
returns-clause-whole g c known before has =
    let file = g.S.Source.seen c.read.new.source in
    let stand = c.read.ensures.stand known in
    let old = c.args.self.now in
    let new = c.in_ok-tail.field-0 in
    let piece : c.deref.result.now ≡ drop old.place file = c.deref.ensures.value ∙ c.in_ok-piece.ensures.bytes known in
    let taken = c.in_ok-tail.ensures.taken in
    let on : GoesOn file old new.tail new.text.items =
    goes_on file (record { tail = old; text = c.new.result }) new c.deref.result.now taken.0 taken.1 piece c.new.ensures.items in
    given_on file before new.text.items old new.tail (g.S.Source.seen c.args.source.now) has stand.1 on
