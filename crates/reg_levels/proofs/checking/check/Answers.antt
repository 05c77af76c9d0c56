use Rattle.std.proofs.Common.{◌≡◌, ◌∙◌, ap, subst, map, reverse, flat_map}
use Rattle.std.proofs.lemmas.Result.{IfOk-weaker}
use Rattle.reg_levels.specs.RequiredPairs.{required_of, required_pairs}
use Rattle.reg_levels.specs.LevelVerdict.{IsVerdictOn}
use Rattle.reg_levels.proofs.LookedAt.{looked_at-map}
use Rattle.reg_levels.proofs.FirstClash.{one_verdict, ok_is_compatible, compatible_is_ok}
use Rattle.reg_levels.proofs.checking.check.Goals as goal

-- the pairs that were checked are those that are required
same_pairs : (c : goal.After-check_each)
    → flat_map (required_of c.args.level c.args.new.now.nodes) (reverse (map (λ old. (old.0, old.1.now.nodes)) c.looked_at.result.now))
    ≡ required_pairs c.args.level c.args.new.now.nodes (map (λ old. (old.0, old.1.now.nodes)) c.args.olds.now)
same_pairs c =
    ap (λ vs. flat_map (required_of c.args.level c.args.new.now.nodes) (reverse vs))
    (ap (map (λ old. (old.0, old.1.now.nodes))) c.looked_at.ensures
    ∙ looked_at-map (λ old. (old.0, old.1.now.nodes)) c.args.level c.args.olds.now)

pub returns-clause-verdict : goal.returns-clause-verdict
returns-clause-verdict c = IfOk-weaker c.check_each.result _ _ (λ v h. subst (λ ps. IsVerdictOn ps v) (same_pairs c) h) c.check_each.ensures

pub returns-clause-ok : goal.returns-clause-ok
returns-clause-ok c =
    let single = c.schemas_have_one_verdict.ensures in
    IfOk-weaker c.check_each.result _ _ (λ v h.
    let is = subst (λ ps. IsVerdictOn ps v) (same_pairs c) h in
    (ok_is_compatible single _ v is, compatible_is_ok single _ v is)) c.check_each.ensures

pub returns-clause-one_verdict : goal.returns-clause-one_verdict
returns-clause-one_verdict c = one_verdict c.schemas_have_one_verdict.ensures
