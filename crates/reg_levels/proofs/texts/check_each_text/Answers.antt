use Rattle.std.proofs.Common.{◌≡◌, ◌-◌, ℕ, List, [], Bor, true, false, get_or, sym, subst, arith, rules}
use Rattle.std.proofs.lemmas.List.{get_or_default}
use Rattle.reg_levels.specs.RequiredPairs.{required_of}
use Rattle.reg_levels.specs.LevelVerdict.{IsVerdictOn}
use Rattle.reg_levels.specs.Texts.{nodes_in}
use Rattle.reg_levels.proofs.Considered.{pairs_from-take}
use Rattle.reg_levels.proofs.FirstClash.{first_clash, first_pass}
use Rattle.reg_levels.proofs.LookedAt.{read-each}
use Rattle.reg_levels.proofs.texts.check_each_text.Goals as goal

-- what stands past the end
abbrev none : ℕ × Bor (List ℕ)
none = (0, record { ref_ptr = (0, 0); now = [] })

pub check_text-requires : goal.check_text-requires
check_text-requires c = read-each (λ text. text.now) c.args.olds.now (c.loop-place.place - 1) none c.requires (omega arith)

pub returns-then-not-verdict : goal.returns-then-not-verdict
returns-then-not-verdict c =
    let fails : c.in_ok-verdict.verdict.ok ≡ false = search rules in
    let old = get_or c.args.olds.now (c.loop-place.place - 1) none in
    c.loop-place.invariant c.in_ok-verdict.verdict
    (subst (λ ps. IsVerdictOn ps c.in_ok-verdict.verdict)
    (sym (
    pairs_from-take (required_of c.args.level c.args.new.now.nodes)
    (λ old. (old.0, nodes_in old.1.now)) c.args.olds.now c.loop-place.place old (omega arith)
    (omega arith) (get_or_default c.args.olds.now (c.loop-place.place - 1) none old (omega arith))))
    (first_clash _ _ c.in_ok-verdict.verdict c.in_ok-verdict.ensures fails))

pub loop-place-preserved : goal.loop-place-preserved
loop-place-preserved c v is =
    let passes : c.in_ok-verdict.verdict.ok ≡ true = search rules in
    let old = get_or c.args.olds.now (c.loop-place.place - 1) none in
    c.loop-place.invariant v
    (subst (λ ps. IsVerdictOn ps v)
    (sym (
    pairs_from-take (required_of c.args.level c.args.new.now.nodes)
    (λ old. (old.0, nodes_in old.1.now)) c.args.olds.now c.loop-place.place old (omega arith)
    (omega arith) (get_or_default c.args.olds.now (c.loop-place.place - 1) none old (omega arith))))
    (first_pass _ _ c.in_ok-verdict.verdict v c.in_ok-verdict.ensures passes is))
