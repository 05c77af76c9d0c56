use Rattle.std.proofs.Common.{◌++◌, List, ℕ, sym, subst}
use Rattle.reg_tail.specs.Tail.{HasGiven}
use Rattle.reg_tail.proofs.tail.Tail.more.Goals as goal

pub returns-in-Ok-clause-whole : goal.returns-in-Ok-clause-whole
returns-in-Ok-clause-whole g c known before has =
    let stays = (c.in-Ok.ensures.seen (c.in_ok-text.ensures.known known)).1 in
    subst (λ (f : List ℕ). HasGiven c.take_more.new.self f (before ++ c.in_ok-text.text.items)) (sym stays)
    (c.in_ok-text.ensures.whole known before has)
