use Rattle.std.proofs.Common.{◌≡◌, ◌≤◌, ◌<◌, ◌+◌, suc, max, take, inl, inr, ap, ◌∙◌, arith}
use Rattle.std.proofs.lemmas.Bool.Decides.{nat_tests}
use Rattle.reg_records.specs.Log.{offset_in}
use Rattle.reg_tail.specs.Line.{IsFront}
use Rattle.reg_tail.specs.declared.gathered.Gathered.{Gathered}
use Rattle.reg_tail.proofs.Gathers.{Adds, takes}
use Rattle.reg_tail.proofs.Texts.{offset_fits}
use Rattle.reg_tail.proofs.gathered.Gathered.take_front.Goals.{then-self-offset+in_ok-extend_from_slice, else-self-offset}
use Rattle.reg_tail.proofs.gathered.Gathered.take_front.Goals as goal

pub pass-requires-clause-within : goal.pass-requires-clause-within
pass-requires-clause-within c =
    let front : IsFront (c.args.self.now.tail.lines + 1) c.args.text.now c.in-Some.len c.in-Some.read =
    rw c.in-Some.is at c.in_ok-len.ensures.line in
    omega (arith, c.offset-offset.ensures, offset_fits front.line c.in-Some.read front.says)

pub returns-clause-taken : goal.returns-clause-taken
returns-clause-taken c =
    let text = c.args.text.now in
    let old = c.args.self.now in
    let mid = c.if-self-offset.self in
    let len = c.in-Some.len in
    let read = c.in-Some.read in
    let front : IsFront (old.tail.lines + 1) text len read = rw c.in-Some.is at c.in_ok-len.ensures.line in
    let both : (mid.tail ≡ old.tail) × Adds old.tail.from (offset_in read) old.text.items mid.text.items (take len text) =
    elim c.if-self-offset.branch as (λ _.
    (mid.tail ≡ old.tail) × Adds old.tail.from (offset_in read) old.text.items mid.text.items (take len text)) [
      | then-self-offset+in_ok-extend_from_slice w ↦
          let within : old.tail.from ≤ offset_in read = omega (arith, w.if-self-offset.true, c.offset-offset.ensures) in (
            ap (λ (g : Gathered). g.tail) w.self-is,
            inl (grind (arith, nat_tests), ap (λ (g : Gathered). g.text.items) w.self-is ∙ w.in_ok-extend_from_slice.ensures.items),
          )
      | else-self-offset w ↦
          let below : offset_in read < old.tail.from = omega (arith, w.if-self-offset.false, c.offset-offset.ensures) in
          (ap (λ (g : Gathered). g.tail) w.self-is, inr (grind (arith, nat_tests), ap (λ (g : Gathered). g.text.items) w.self-is))
    ] in
    let passed = c.in_ok-pass.ensures in
    takes text old mid c.pass.new.self len read front both.0 passed.place passed.count passed.from
    (passed.next ∙ ap (λ o. max mid.tail.next (suc o)) c.offset-offset.ensures) both.1
