use Rattle.std.proofs.Common.{rules, refl, ◌≡◌, ◌≤◌, ◌<◌, inl, inr, ◌⊎◌, take, ◌∙◌, arith}
use Rattle.reg_tail.proofs.Given.{fits, given_front}
use Rattle.reg_tail.proofs.reading.begin_at.Goals.{else-from-gt0-via-then-from-gt0+else-from-front}
use Rattle.reg_tail.proofs.reading.begin_at.Goals.{else-from-gt0-via-else-from-gt0}
use Rattle.reg_tail.proofs.reading.begin_at.Goals.{then-from-gt0-2, else-from-gt0-2}
use Rattle.reg_tail.proofs.reading.begin_at.Goals as goal

pub returns-in-Err-clause-refused : goal.returns-in-Err-clause-refused
returns-in-Err-clause-refused c = (c.in-Err.ensures.fault.0, λ floor above. c.in-Err.ensures.fault.1 floor above.2)

pub returns-clause-begun : goal.returns-clause-begun
returns-clause-begun c =
    let from = c.args.from in
    let file = c.args.file.now in
    let front = c.in-Ok.front in
    let is = c.in-Ok.ensures.front in
    let within : 0 < from → front.floor ≤ from = elim c.else-from-gt0.branch as (λ _. 0 < from → front.floor ≤ from) [
      | else-from-gt0-via-then-from-gt0+else-from-front w ↦ λ some. omega (arith, w.if-from-front.false)
      | else-from-gt0-via-else-from-gt0 w ↦ λ some. absurd (omega (arith, w.if-from-gt0.false))
    ] in
    let given = c.if-from-gt0-2.given in
    let cases : ((0 < from) × (given ≡ 0)) ⊎ ((from ≡ 0) × (given ≡ front.len)) =
    elim c.if-from-gt0-2.branch as (λ _. ((0 < from) × (given ≡ 0)) ⊎ ((from ≡ 0) × (given ≡ front.len))) [
      | then-from-gt0-2 w ↦ inl (omega (arith, w.if-from-gt0-2.true), w.given-is)
      | else-from-gt0-2 w ↦ inr (omega (arith, w.if-from-gt0-2.false), w.given-is)
    ] in
    let text : c.in_ok-text.text.items ≡ take given file = search rules in
    record {
      lines = is.lines;
      floor = front.floor;
      rest = is.rest;
      parts = is.parts;
      says = is.floor;
      fits = fits from file front is within;
      faults = is.faults;
      given = text ∙ given_front from file is.lines is.rest front.len given is.parts is.len cases;
      place = is.len;
      count = is.count;
      from = refl;
      next = c.max.ensures;
    }
