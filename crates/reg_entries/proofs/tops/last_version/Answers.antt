use Rattle.std.proofs.Common.{None, sym, ap, subst, ◌∙◌}
use Rattle.std.proofs.lemmas.Bool.{false≢true}
use Rattle.std.proofs.lemmas.Slice.Eq.{bytes_eq-Decides}
use Rattle.std.specs.Prelude.{is_some}
use Rattle.reg_entries.specs.Index.{IsGreatestUpTo}
use Rattle.reg_entries.proofs.Topmost.{greatest_up_to, none_up_to, up_to}
use Rattle.reg_entries.proofs.tops.last_version.Goals as goal

pub returns-in_err-found : goal.returns-in_err-found
returns-in_err-found c =
    let none : IsGreatestUpTo c.args.entries.now c.args.last.now None =
    λ w h. (c.range.ensures.in_range tt).5 c.in_err-found.ensures.steps.0 (c.args.last.now.0, w) (tt, up_to c.args.last.now w h) in
    subst (IsGreatestUpTo c.args.entries.now c.args.last.now) (sym c.from_residual.ensures) none

pub returns-then-eq : goal.returns-then-eq
returns-then-eq c =
    let last = (c.range.ensures.in_range tt).3 _ _ c.in_ok-found.ensures.steps in
    let upper = (c.range.ensures.in_range tt).4 _ _ c.in_ok-found.ensures.steps in
    greatest_up_to c.args.entries.now c.args.last.now c.in_ok-found.found.now
    (λ x before. upper x (tt, before)) ((bytes_eq-Decides _ _).0 (sym c.if-eq.ensures)) (ap is_some last.1)

pub returns-else-eq : goal.returns-else-eq
returns-else-eq c =
    let last = (c.range.ensures.in_range tt).3 _ _ c.in_ok-found.ensures.steps in
    let upper = (c.range.ensures.in_range tt).4 _ _ c.in_ok-found.ensures.steps in
    none_up_to c.args.entries.now c.args.last.now c.in_ok-found.found.now (λ x before. upper x (tt, before))
    (λ same. false≢true (c.if-eq.ensures ∙ (bytes_eq-Decides _ _).1 same)) last.0.1
