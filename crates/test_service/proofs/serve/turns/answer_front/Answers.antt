use Rattle.std.proofs.Common.{ℕ, List, sym, subst}
use Rattle.std.specs.Prelude.{take}
use Rattle.reg_messages.specs.Extent.{IsWhole}
use Rattle.test_service.proofs.serve.turns.answer_front.Goals as goal

pub answer_one-requires-clause-whole : goal.answer_one-requires-clause-whole
answer_one-requires-clause-whole g c =
    subst (λ (w : List ℕ). IsWhole (take c.in-Some.len w)) (sym c.front_len.ensures.same) c.in-Some.ensures.whole
