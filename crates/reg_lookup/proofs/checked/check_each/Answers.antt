use Rattle.std.proofs.Common.{◌≡◌, List, map, ap, sym, subst, ◌∙◌}
use Rattle.std.proofs.lemmas.Result.{IfOk-weaker}
use Rattle.std.specs.List.Sorted.{IsStrictlyIncreasing}
use Rattle.reg_levels.specs.Judgement.{first_unread}
use Rattle.reg_levels.specs.LevelVerdict.{IsLevelVerdict}
use Rattle.reg_levels.specs.Texts.{VersionText, versions_in}
use Rattle.reg_lookup.proofs.checked.check_each.Goals as goal

pub check_read_texts-requires-clause-rising : goal.check_read_texts-requires-clause-rising
check_read_texts-requires-clause-rising c =
    let same =
    ap (map (λ old. old.0)) c.deref.ensures.value
    ∙ c.in_ok-lent.ensures.versions
    ∙ ap (map {A = VersionText} (λ old. old.0)) c.as_slice.ensures in
    subst IsStrictlyIncreasing (sym same) c.requires.0

pub check_read_texts-requires-clause-read : goal.check_read_texts-requires-clause-read
check_read_texts-requires-clause-read c =
    let same : map {B = VersionText} (λ old. (old.0, old.1.now)) c.deref.result.now ≡ c.args.olds.now =
    ap (map {B = VersionText} (λ old. (old.0, old.1.now))) c.deref.ensures.value ∙ c.in_ok-lent.ensures.texts ∙ c.as_slice.ensures in
    ap first_unread same ∙ c.requires.1

pub returns : goal.returns
returns c =
    let same : map {B = VersionText} (λ old. (old.0, old.1.now)) c.deref.result.now ≡ c.args.olds.now =
    ap (map {B = VersionText} (λ old. (old.0, old.1.now))) c.deref.ensures.value ∙ c.in_ok-lent.ensures.texts ∙ c.as_slice.ensures in
    IfOk-weaker c.check_read_texts.result _ _ (λ v is.
    subst (λ (olds : List VersionText). IsLevelVerdict c.args.level c.args.schema.now.nodes (versions_in olds) v) same is)
    c.check_read_texts.ensures
