use Rattle.std.proofs.Common.{rules, ◌≡◌, ◌<◌, ◌≤◌, ◌-◌, ◌∷◌, ℕ, List, length, drop, length-take, length-drop, sym, subst, arith}
use Rattle.reg_tail.specs.Gathered.{Gathers, Takes}
use Rattle.reg_tail.specs.declared.gathered.Gathered.{Gathered}
use Rattle.reg_tail.proofs.Gathers.{begun, refused, stepped}
use Rattle.reg_tail.proofs.Texts.{rest_of}
use Rattle.reg_tail.proofs.gathered.Gathered.take_lines.Goals as goal

pub loop-gathered-init : goal.loop-gathered-init
loop-gathered-init c = begun c.args.piece.now c.args.self

pub returns-in_err-len-clause-refused : goal.returns-in_err-len-clause-refused
returns-in_err-len-clause-refused c =
    let bad = refused c.args.piece.now c.loop-gathered.rest.now c.args.self c.loop-gathered.gathered
    c.loop-gathered.invariant c.in_err-len.field-0.0 c.in_err-len.ensures.refused in
    search (rules, bad)

pub loop-gathered-smaller : goal.loop-gathered-smaller
loop-gathered-smaller c =
    let rest = c.loop-gathered.rest.now in
    let len = c.in-Some.len in
    let within : (0 < len) × (len ≤ length rest) = rw c.in-Some.is at c.in_ok-len.ensures.within in
    omega (arith, length-take (length rest - len) (drop len rest), length-drop len rest)

pub loop-gathered-preserved : goal.loop-gathered-preserved
loop-gathered-preserved c =
    let rest = c.loop-gathered.rest.now in
    let t : Takes rest c.loop-gathered.gathered c.take_front.new.self c.in-Some.len = rw c.in-Some.is at c.in_ok-len.ensures.taken in
    subst (λ (r : List ℕ). Gathers c.args.piece.now r c.args.self c.take_front.new.self)
    (rest_of t.front.line t.front.behind rest c.in-Some.len t.front.parts t.front.size)
    (stepped c.args.piece.now rest c.args.self c.loop-gathered.gathered c.loop-gathered.invariant c.take_front.new.self c.in-Some.len t)

pub returns-clause-taken : goal.returns-clause-taken
returns-clause-taken c =
    let ended : (c.take_front.new.self ≡ c.loop-gathered.gathered) × ((behind : List ℕ) × (c.loop-gathered.rest.now ≡ 10 ∷ behind)) =
    rw c.in_default.is at c.in_ok-len.ensures.taken in
    let behind = ended.1.0 in (
      behind,
      subst (λ (g : Gathered). Gathers c.args.piece.now (10 ∷ behind) c.args.self g) (sym ended.0)
          (subst (λ (r : List ℕ). Gathers c.args.piece.now r c.args.self c.loop-gathered.gathered) ended.1.1 c.loop-gathered.invariant),
    )
