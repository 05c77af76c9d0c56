use Rattle.std.proofs.Common.{◌≡◌, List, [], Ok, length, drop, ap, ◌∙◌}
use Rattle.reg_adapter.proofs.Stepping.{by_part, by_word, fewer, less_left, moved}
use Rattle.reg_adapter.specs.Heard.{heard_with}
use Rattle.reg_adapter.specs.Lines.{Unread}
use Rattle.reg_adapter.specs.Messages.{begun_in}
use Rattle.reg_adapter.specs.Steps.{IsTaken, told_after}
use Rattle.reg_adapter.specs.declared.told.AdapterMessage.{AdapterMessage}
use Rattle.reg_adapter.proofs.messages.Messages.step.Goals.{then-self+in_ok-part+in_ok-step, else-self+in_ok-word}
use Rattle.reg_adapter.proofs.messages.Messages.step.Goals as goal

came : (c : goal.After-pass) (told : List AdapterMessage)
    → (heard_with told (begun_in c.args.self.now) c.in-Some.ensures.text
    ≡ Ok (record { told = told_after told c.if-self.step; begun = begun_in c.if-self.self }))
    × (c.if-self.self.lines ≡ c.args.self.now.lines) × IsTaken c.if-self.step
came c told =
    let front = c.in-Some.ensures in
    elim c.if-self.branch as (λ _.
    (heard_with told (begun_in c.args.self.now) c.in-Some.ensures.text
    ≡ Ok (record { told = told_after told c.if-self.step; begun = begun_in c.if-self.self }))
    × (c.if-self.self.lines ≡ c.args.self.now.lines) × IsTaken c.if-self.step) [
      | then-self+in_ok-part+in_ok-step w ↦
          by_part told c.args.self.now w.take_part.new.self c.if-self.self front.text w.deref.result.now w.in_ok-part.part w.in_ok-step.step
          c.if-self.step w.if-self.true w.deref.ensures.value (w.in_ok-part.ensures.part front.text front.is front.free)
          w.in_ok-step.ensures.taken w.self-is w.step-is
      | else-self+in_ok-word w ↦
          by_word told c.args.self.now w.take_word-step.new.self c.if-self.self front.text w.in_ok-word.word w.take_word-step.result
          c.if-self.step w.if-self.false (w.in_ok-word.ensures.word front.text front.is) w.take_word-step.ensures w.self-is w.step-is
    ]

pub returns-clause-steps : goal.returns-clause-steps
returns-clause-steps c text told has =
    let all = came c told in
    moved text told c.args.self.now c.if-self.self c.in-Some.line.now c.if-self.step c.pass.new.self has c.in-Some.ensures all.0 all.1
    c.pass.ensures

pub returns-clause-less : goal.returns-clause-less
returns-clause-less c =
    let all = came c [] in
    let left = fewer c.args.self.now.lines.bytes c.in-Some.line.now c.pass.new.self.bytes c.in-Some.ensures
    (ap (λ (u : Unread). u.bytes) c.pass.ensures ∙ ap (λ (u : Unread). drop (length c.in-Some.line.now) u.bytes) all.1) in
    less_left c.args.self.now (record c.if-self.self { lines = c.pass.new.self }) c.if-self.step all.2 left
