use Rattle.std.proofs.Common.{◌≡◌, Bool, true, false, [], ◌∷◌, refl, inl, inr, sym, subst, ap, ◌∙◌, ◌&&◌}
use Rattle.std.proofs.Math.Bool.{and-true}
use Rattle.std.proofs.lemmas.List.{nil_from_length}
use Rattle.reg_judge.specs.Judge.{UsesInTurn, used}
use Rattle.reg_judge.specs.Kept.{AreVerdicts, IsVerdictOf, pairs_of, texts_of}
use Rattle.reg_judge.proofs.Keeping.{first, others}
use Rattle.reg_judge.proofs.verdicts.keep_all.Goals as goal

pub keep-requires-clause-made : goal.keep-requires-clause-made
keep-requires-clause-made c =
    first IsVerdictOf (c.in-Some.pair, c.in-Some.verdict) c.next.new.self.rest.items
    (subst AreVerdicts c.in-Some.ensures.steps.0 c.loop-pair.invariant.left)

and-false : (b : Bool) → (b && false) ≡ false
and-false true = refl
and-false false = refl

pub loop-pair-preserved-then-not-keep : goal.loop-pair-preserved-then-not-keep
loop-pair-preserved-then-not-keep c = record {
  kept = c.keep.ensures.verdicts;
  left = others IsVerdictOf (c.in-Some.pair, c.in-Some.verdict) c.next.new.self.rest.items
      (subst AreVerdicts c.in-Some.ensures.steps.0 c.loop-pair.invariant.left);
  capacity = c.keep.ensures.capacity ∙ c.loop-pair.invariant.capacity;
  used = λ after rest u.
      let cap = c.args.kept.now.cap in
      let here = pairs_of c.loop-pair.kept.entries in
      let left = pairs_of c.next.new.self.rest.items in
      let none = c.if-not-keep.ensures.kept in
      let next : UsesInTurn cap (texts_of c.in-Some.pair ∷ left) here after false =
      inr (none.1, refl, (rest, subst (λ ps. UsesInTurn cap left ps after rest) none.0 u)) in
      subst (λ b. UsesInTurn cap (pairs_of c.args.used.items) (pairs_of c.args.kept.now.entries) after b) (and-false c.loop-pair.all)
      (c.loop-pair.invariant.used after false
      (subst (λ es. UsesInTurn cap (pairs_of es) here after false) (sym c.in-Some.ensures.steps.0) next));
}

pub loop-pair-preserved : goal.loop-pair-preserved
loop-pair-preserved c = record {
  kept = c.keep.ensures.verdicts;
  left = others IsVerdictOf (c.in-Some.pair, c.in-Some.verdict) c.next.new.self.rest.items
      (subst AreVerdicts c.in-Some.ensures.steps.0 c.loop-pair.invariant.left);
  capacity = c.keep.ensures.capacity ∙ c.loop-pair.invariant.capacity;
  used = λ after rest u.
      let cap = c.args.kept.now.cap in
      let here = pairs_of c.loop-pair.kept.entries in
      let left = pairs_of c.next.new.self.rest.items in
      let kept = c.if-not-keep.ensures.kept ∙ ap (λ n. used n (texts_of c.in-Some.pair) here) c.loop-pair.invariant.capacity in
      let next : UsesInTurn cap (texts_of c.in-Some.pair ∷ left) here after rest =
      inl (subst (λ ps. UsesInTurn cap left ps after rest) kept u) in
      c.loop-pair.invariant.used after rest
      (subst (λ es. UsesInTurn cap (pairs_of es) here after rest) (sym c.in-Some.ensures.steps.0) next);
}

pub returns-clause-kept : goal.returns-clause-kept
returns-clause-kept c =
    let cap = c.args.kept.now.cap in
    let here = pairs_of c.loop-pair.kept.entries in
    let left = c.loop-pair.pair-iterator.rest in
    let none : left.items ≡ [] = nil_from_length left.items (sym left.ok.0 ∙ c.in-None.ensures.steps.0) in
    subst (λ b. UsesInTurn cap (pairs_of c.args.used.items) (pairs_of c.args.kept.now.entries) here b) (and-true c.loop-pair.all)
    (c.loop-pair.invariant.used here true
    (subst (λ es. UsesInTurn cap (pairs_of es) here here true) (sym none) (refl, refl)))
