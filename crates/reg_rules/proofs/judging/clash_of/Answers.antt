use Rattle.std.proofs.Common.{Some, map, sym, ap, subst, ◌∙◌}
use Rattle.std.proofs.lemmas.Result.{IfOk-weaker}
use Rattle.std.specs.List.Sorted.{IsStrictlyIncreasing}
use Rattle.reg_modes.specs.reg_fold.InForce.{level}
use Rattle.reg_modes.specs.reg_fold.Standing.{live}
use Rattle.reg_levels.specs.Judgement.{first_unread}
use Rattle.reg_levels.specs.Message.{message_of}
use Rattle.reg_levels.specs.RequiredPairs.{looked_at}
use Rattle.reg_levels.specs.Texts.{VersionText}
use Rattle.reg_modes.specs.reg_entries.Sought.{AreInVersionOrder, texts_of}
use Rattle.reg_rules.proofs.LookedAt.{looked_at-read, report_on_all, texts_looked_at}
use Rattle.reg_rules.proofs.Verdicts.{judgement_reports, verdict_reports}
use Rattle.reg_rules.proofs.judging.clash_of.Goals as goal

pub checked-requires-clause-rising : goal.checked-requires-clause-rising
checked-requires-clause-rising c =
    let same =
    ap (map (λ old. old.0)) c.deref-3.ensures.value
    ∙ c.in_ok-texts.ensures.versions in
    subst IsStrictlyIncreasing (sym same)
    (subst (λ es. AreInVersionOrder (map (λ e. e.now) es)) (sym c.deref.ensures.value) c.in_ok-looked_at.ensures.in_order)

pub checked-requires-clause-read : goal.checked-requires-clause-read
checked-requires-clause-read c =
    let rs = c.args.registry.now in
    let s = c.args.subject.now in
    let l = c.level-level.result in
    let at =
    ap (map (λ e. e.now)) c.deref.ensures.value
    ∙ c.in_ok-looked_at.ensures.all ∙ ap (λ subject. looked_at l (live rs subject)) c.as_str-2.ensures in
    let same =
    ap (map {B = VersionText} (λ old. (old.0, old.1.now))) c.deref-3.ensures.value
    ∙ texts_looked_at l (live rs s) _ _ at c.in_ok-texts.ensures.texts in
    ap first_unread same ∙ looked_at-read l (texts_of (live rs s)) (c.live_versions_are_read.ensures rs s)

pub returns-in-Some : goal.returns-in-Some
returns-in-Some c =
    let rs = c.args.registry.now in
    let s = c.args.subject.now in
    let l = c.level-level.result in
    let normal = c.args.schema.now.normal in
    let all = texts_of (live rs s) in
    let at =
    ap (map (λ e. e.now)) c.deref.ensures.value
    ∙ c.in_ok-looked_at.ensures.all ∙ ap (λ subject. looked_at l (live rs subject)) c.as_str-2.ensures in
    let in_force = c.level-level.ensures ∙ ap (λ subject. level rs (Some subject)) c.as_str.ensures in
    let same =
    ap (map {B = VersionText} (λ old. (old.0, old.1.now))) c.deref-2.ensures.value
    ∙ texts_looked_at l (live rs s) _ _ at c.in_ok-texts.ensures.texts
    ∙ ap (λ l. looked_at l all) in_force in
    let made = c.in-Some.ensures in
    IfOk-weaker c.message.result _ _ (λ told is.
    report_on_all (level rs (Some s)) normal all told
    (judgement_reports (level rs (Some s)) normal (looked_at (level rs (Some s)) all) c.in-Some.judged.now told
    (made.0 ∙ in_force, made.1 ∙ c.as_str-3.ensures ∙ c.normal.ensures.text, made.2 ∙ same)
    c.verdict.ensures.is_true (is ∙ ap message_of c.verdict.ensures.verdict)))
    c.message.ensures

pub returns : goal.returns
returns c =
    let rs = c.args.registry.now in
    let s = c.args.subject.now in
    let l = c.level-level.result in
    let normal = c.args.schema.now.normal in
    let all = texts_of (live rs s) in
    let at =
    ap (map (λ e. e.now)) c.deref.ensures.value
    ∙ c.in_ok-looked_at.ensures.all ∙ ap (λ subject. looked_at l (live rs subject)) c.as_str-2.ensures in
    let in_force = c.level-level.ensures ∙ ap (λ subject. level rs (Some subject)) c.as_str.ensures in
    let same =
    ap (map {B = VersionText} (λ old. (old.0, old.1.now))) c.deref-3.ensures.value
    ∙ texts_looked_at l (live rs s) _ _ at c.in_ok-texts.ensures.texts
    ∙ ap (λ l. looked_at l all) in_force in
    IfOk-weaker c.message-2.result _ _ (λ told is.
    report_on_all (level rs (Some s)) normal all told
    (verdict_reports c.level-level.result (level rs (Some s)) normal _ (looked_at (level rs (Some s)) all) c.in_ok-verdict.verdict told
    in_force same c.in_ok-verdict.ensures is)) c.message-2.ensures
