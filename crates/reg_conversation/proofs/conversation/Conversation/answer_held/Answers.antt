use Rattle.std.proofs.Common.{ap, subst, sym, take, ◌∙◌}
use Rattle.std.specs.Prelude.{MatchOption}
use Rattle.reg_messages.specs.Extent.{LacksHead}
use Rattle.reg_messages.specs.FrontRead.{IsFrontOf}
use Rattle.reg_messages.specs.Head.{front_of}
use Rattle.reg_messages.specs.Parts.{Parts}
use Rattle.reg_messages.specs.Reading.{GetsLent}
use Rattle.reg_conversation.proofs.conversation.Conversation.answer_held.Goals as goal

pub message_parts-got-requires : goal.message_parts-got-requires
message_parts-got-requires g c =
    let same = ap (take c.args.len) (c.deref.ensures.value ∙ c.self.view_is ∙ c.take_front-front.ensures.same) in
    record { read = subst (λ text. MatchOption c.take_front-front.result (LacksHead (front_of text)) (IsFrontOf text)) (sym same) c.take_front-front.ensures.read }

pub returns-in-Ok-clause-step : goal.returns-in-Ok-clause-step
returns-in-Ok-clause-step g c =
    let (left, gets) = c.message_parts-got.ensures in
    let same = ap (take c.args.len) (c.deref.ensures.value ∙ c.self.view_is ∙ c.take_front-front.ensures.same) in
    (left, c.in-Ok.ensures.step (take c.args.len c.args.self.now) left (subst (λ text. GetsLent (λ (parts : Parts). parts) text left c.message_parts-got.result) same gets))

pub returns-in-Err-clause-refused : goal.returns-in-Err-clause-refused
returns-in-Err-clause-refused g c =
    let (left, gets) = c.message_parts-got.ensures in
    let same = ap (take c.args.len) (c.deref.ensures.value ∙ c.self.view_is ∙ c.take_front-front.ensures.same) in
    c.in-Err.ensures.refused (take c.args.len c.args.self.now) left (subst (λ text. GetsLent (λ (parts : Parts). parts) text left c.message_parts-got.result) same gets)
