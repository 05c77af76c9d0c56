use Rattle.std.proofs.Common.{◌≡◌, ◌-◌, ◌≤◌, ◌+◌, ◌++◌, true, false, [], length, map, take}
use Rattle.std.proofs.Common.{drop, refl, sym, ap, subst, ◌∙◌, append-nil, arith, rules}
use Rattle.std.proofs.lemmas.List.{drop_all, take_all}
use Rattle.reg_levels.specs.RequiredPairs.{directions}
use Rattle.reg_judge.specs.Kept.{AreVerdicts, IsRun, IsVerdictOf, LeadsTo, asked, asked_from, pairs_of, texts_of}
use Rattle.reg_judge.proofs.Keeping.{none, pushed}
use Rattle.reg_judge.proofs.Runs.{asked_from-take, goes_on, started, stops}
use Rattle.reg_judge.proofs.Texts.{of_pair, pairs_more}
use Rattle.reg_judge.proofs.judging.judge_each.Goals as goal

pub loop-place-init : goal.loop-place-init
loop-place-init c = record {
  verdicts = subst AreVerdicts (sym c.new-used.ensures.items) (none IsVerdictOf);
  leads = started _ _ (ap (asked_from c.args.level c.args.new.now) (take_all (length c.args.olds.now) c.args.olds.now (omega arith))) _
      (ap pairs_of c.new-used.ensures.items);
}

pub loop-direction-init : goal.loop-direction-init
loop-direction-init c = record {
  verdicts = c.loop-place.invariant.verdicts;
  leads = λ rest v run. c.loop-place.invariant.leads rest v
      (subst (λ left. IsRun left rest v)
      (sym (
      asked_from-take c.args.level c.args.new.now c.args.olds.now c.loop-place.place c.index-olds-place.result
      (omega arith) (omega arith) c.index-olds-place.is)) run);
}

pub loop-place-preserved : goal.loop-place-preserved
loop-place-preserved c =
    let past : length (directions c.args.level) ≤ c.loop-direction.direction-index =
    subst (λ ds. length ds ≤ c.loop-direction.direction-index) c.directions-asked.ensures c.loop-direction-test.false in
    record {
      verdicts = c.loop-direction.invariant.verdicts;
      leads = λ rest v run. c.loop-direction.invariant.leads rest v
          (subst (λ ds.
          IsRun (
          map (asked c.args.new.now c.index-olds-place.result) ds
          ++ asked_from c.args.level c.args.new.now (take (c.loop-place.place - 1) c.args.olds.now)) rest v)
          (sym (drop_all c.loop-direction.direction-index (directions c.args.level) past)) run);
    }

pub loop-direction-preserved : goal.loop-direction-preserved
loop-direction-preserved c =
    let all = asked_from c.args.level c.args.new.now c.args.olds.now in
    let after = asked_from c.args.level c.args.new.now (take (c.loop-place.place - 1) c.args.olds.now) in
    let old = c.index-olds-place.result in
    let used = c.loop-direction.used.items in
    let i = c.loop-direction.direction-index in
    let ok : c.in_ok-told.told.ok ≡ true = search rules in
    let leads : LeadsTo all (pairs_of used) (map (asked c.args.new.now old) (drop i c.directions-asked.result.now) ++ after) =
    subst (λ ds. LeadsTo all (pairs_of used) (map (asked c.args.new.now old) (drop i ds) ++ after))
    (sym c.directions-asked.ensures) c.loop-direction.invariant.leads in
    let on = goes_on all (pairs_of used) c.args.new.now old c.directions-asked.result.now i after c.loop-direction-test.true leads
    (texts_of c.in_ok-pair.pair) c.in_ok-pair.verdict c.in_ok-told.told c.in_ok-pair.ensures.pair
    (of_pair c.in_ok-pair.pair c.in_ok-pair.verdict c.in_ok-pair.ensures.verdict) c.in_ok-told.ensures ok in record {
      verdicts = subst AreVerdicts (sym c.in_ok-push.ensures.items) (
          pushed IsVerdictOf used
          (c.in_ok-pair.pair, c.in_ok-pair.verdict) c.loop-direction.invariant.verdicts c.in_ok-pair.ensures.verdict);
      leads =
          subst (λ ds. LeadsTo all (pairs_of c.push.new.self.items) (map (asked c.args.new.now old) (drop (i + 1) ds) ++ after))
          c.directions-asked.ensures
          (subst (λ judged. LeadsTo all judged (map (asked c.args.new.now old) (drop (i + 1) c.directions-asked.result.now) ++ after))
          (sym (ap pairs_of c.in_ok-push.ensures.items ∙ pairs_more used c.in_ok-pair.pair c.in_ok-pair.verdict)) on);
    }

pub returns-then-not-told : goal.returns-then-not-told
returns-then-not-told c =
    let all = asked_from c.args.level c.args.new.now c.args.olds.now in
    let after = asked_from c.args.level c.args.new.now (take (c.loop-place.place - 1) c.args.olds.now) in
    let old = c.index-olds-place.result in
    let used = c.loop-direction.used.items in
    let i = c.loop-direction.direction-index in
    let ok : c.in_ok-told.told.ok ≡ false = search rules in
    let leads : LeadsTo all (pairs_of used) (map (asked c.args.new.now old) (drop i c.directions-asked.result.now) ++ after) =
    subst (λ ds. LeadsTo all (pairs_of used) (map (asked c.args.new.now old) (drop i ds) ++ after))
    (sym c.directions-asked.ensures) c.loop-direction.invariant.leads in
    let end = stops all (pairs_of used) c.args.new.now old c.directions-asked.result.now i after c.loop-direction-test.true leads
    (texts_of c.in_ok-pair.pair) c.in_ok-pair.verdict c.in_ok-told.told c.in_ok-pair.ensures.pair
    (of_pair c.in_ok-pair.pair c.in_ok-pair.verdict c.in_ok-pair.ensures.verdict) c.in_ok-told.ensures ok in record {
      run = subst (λ judged. IsRun all judged c.in_ok-told.told)
          (sym (ap pairs_of c.in_ok-push.ensures.items ∙ pairs_more used c.in_ok-pair.pair c.in_ok-pair.verdict)) end;
      used = subst AreVerdicts (sym c.in_ok-push.ensures.items) (
          pushed IsVerdictOf used
          (c.in_ok-pair.pair, c.in_ok-pair.verdict) c.loop-direction.invariant.verdicts c.in_ok-pair.ensures.verdict);
    }

pub returns : goal.returns
returns c =
    let none_left : c.loop-place.place ≡ 0 = omega arith in record {
      run =
          subst (λ judged. IsRun (asked_from c.args.level c.args.new.now c.args.olds.now) judged c.passed.result)
          (append-nil (pairs_of c.loop-place.used.items))
          (c.loop-place.invariant.leads [] c.passed.result
          (subst (λ n. IsRun (asked_from c.args.level c.args.new.now (take n c.args.olds.now)) [] c.passed.result)
          (sym none_left) (refl, c.passed.ensures)));
      used = c.loop-place.invariant.verdicts;
    }
