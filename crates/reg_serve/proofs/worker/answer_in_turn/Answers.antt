use Rattle.std.proofs.Common.{ℕ, List, sym, subst, ◌∙◌}
use Rattle.std.specs.Prelude.{take}
use Rattle.reg_messages.specs.Extent.{IsWhole}
use Rattle.reg_serve.proofs.worker.answer_in_turn.Goals as goal

pub answer_front-answered-requires-clause-whole : goal.answer_front-answered-requires-clause-whole
answer_front-answered-requires-clause-whole g c =
    subst (λ (w : List ℕ). IsWhole (take c.in-Some.len w)) (sym (c.be_ready.ensures.held ∙ c.front_len.ensures.same)) c.in-Some.ensures.whole
