use Rattle.std.proofs.Common.{◌≡◌, ℕ, Bor, None, List, OnOk, flat_map, map, reverse, ap, subst, ◌∙◌}
use Rattle.std.proofs.lemmas.Result.{IfErr-weaker, IfOk-weaker}
use Rattle.reg_levels.specs.Judgement.{first_unread}
use Rattle.reg_levels.specs.LevelVerdict.{IsVerdictOn}
use Rattle.reg_levels.specs.RequiredPairs.{looked_at, required_of}
use Rattle.reg_levels.specs.Texts.{VersionText, nodes_in, versions_in}
use Rattle.reg_judge.specs.Judge.{HasUsed, text_pair}
use Rattle.reg_levels.specs.RequiredPairs.{directions}
use Rattle.reg_judge.proofs.LookedAt.{decides, looked_at-map, looked_at-read, looked_at-twice, refused_too}
use Rattle.reg_judge.proofs.Runs.{rising_map}
use Rattle.reg_judge.proofs.judge.Judge.check_read.Goals as goal

-- a version with its text
abbrev told : ℕ × Bor (List ℕ) → VersionText
told old = (old.0, old.1.now)

pub returns-clause-verdict : goal.returns-clause-verdict
returns-clause-verdict c =
    let level = c.args.level in
    let texts : List VersionText = map told c.args.olds.now in
    let same : map told c.looked_at.result.now ≡ looked_at level texts =
    ap (map told) c.looked_at.ensures ∙ looked_at-map told level c.args.olds.now in
    IfOk-weaker c.check_with.result _ _ (λ v is.
    record {
      new_is_read = is.new_is_read;
      olds_are_read = c.requires.read;
      versions_rise = rising_map (λ text. text.now) c.args.olds.now c.requires.rising;
      is_verdict = subst (λ vs. IsVerdictOn (flat_map (required_of level (nodes_in c.args.new_text.now)) (reverse vs)) v)
          (ap (λ (os : List VersionText). looked_at level (versions_in os)) same ∙ decides level texts) is.is_verdict;
    }) c.check_with.ensures.verdict

pub returns-clause-refused : goal.returns-clause-refused
returns-clause-refused c =
    let level = c.args.level in
    let texts : List VersionText = map told c.args.olds.now in
    let same : map told c.looked_at.result.now ≡ looked_at level texts =
    ap (map told) c.looked_at.ensures ∙ looked_at-map told level c.args.olds.now in
    let read : first_unread (map told c.looked_at.result.now) ≡ None = ap first_unread same ∙ looked_at-read level texts c.requires.read in
    IfErr-weaker c.check_with.result _ _ (λ e is. refused_too c.args.new_text.now texts (map told c.looked_at.result.now) e read is)
    c.check_with.ensures.refused

pub returns-clause-used : goal.returns-clause-used
returns-clause-used c =
    let level = c.args.level in
    let texts : List VersionText = map told c.args.olds.now in
    let same : looked_at level (map told c.looked_at.result.now) ≡ looked_at level texts =
    ap (λ (os : List VersionText). looked_at level os) (ap (map told) c.looked_at.ensures ∙ looked_at-map told level c.args.olds.now)
    ∙ looked_at-twice level texts in
    subst (λ (os : List VersionText). OnOk c.check_with.result (HasUsed c.args.self.now.capacities.verdicts
    (flat_map (λ old. map (text_pair c.args.new_text.now old) (directions level)) (reverse os))
    c.args.self.now.pairs c.check_with.new.self.pairs c.check_with.new.self.kept_all)) same c.check_with.ensures.used
