use Rattle.std.proofs.Common.{◌≡◌, false, sym, subst, arith, rules}
use Rattle.reg_levels.specs.RequiredPairs.{required_of}
use Rattle.reg_levels.specs.LevelVerdict.{IsVerdictOn}
use Rattle.reg_levels.proofs.Considered.{pairs_from-take}
use Rattle.reg_levels.proofs.FirstClash.{first_clash}
use Rattle.reg_levels.proofs.checking.check_each.Goals as goal

pub returns-then-not-verdict : goal.returns-then-not-verdict
returns-then-not-verdict c =
    let fails : c.in_ok-verdict.verdict.ok ≡ false = search rules in
    c.loop-place.invariant c.in_ok-verdict.verdict
    (subst (λ ps. IsVerdictOn ps c.in_ok-verdict.verdict)
    (sym (
    pairs_from-take (required_of c.args.level c.args.new.now.nodes) (λ old. (old.0, old.1.now.nodes)) c.args.olds.now
    c.loop-place.place c.index-olds-place.result (omega arith) (omega arith) c.index-olds-place.is))
    (first_clash _ _ c.in_ok-verdict.verdict c.in_ok-verdict.ensures fails))
