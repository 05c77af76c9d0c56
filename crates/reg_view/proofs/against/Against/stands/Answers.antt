use Rattle.std.proofs.Common.{◌≡◌, ◌↔◌, IsTrue, List, Some, map, sym, ap, subst, ◌∙◌, rules}
use Rattle.reg_fold.specs.InForce.{level}
use Rattle.reg_fold.specs.Standing.{live}
use Rattle.reg_levels.specs.RequiredPairs.{looked_at}
use Rattle.reg_levels.specs.Texts.{VersionText}
use Rattle.reg_view.proofs.Matters.{stands_over}
use Rattle.reg_view.proofs.against.Against.stands.Goals as goal

pub returns : goal.returns
returns c =
    let rs = c.args.registry.now in
    let l = c.self.inside.level in
    let same : c.level.result ≡ l = search rules in
    stands_over rs c.args.subject.now c.args.self.now l
    c.self.inside.olds c.deref.result.now c.are_texts_of.result c.self.view_is
    (sym same ∙ c.level.ensures ∙ ap (λ subject. level rs (Some subject)) c.as_str.ensures)
    (ap (map (λ e. e.now)) c.deref.ensures.value
    ∙ c.in_ok-looked_at.ensures.all ∙ ap (λ subject. looked_at l (live rs subject)) c.as_str-2.ensures)
    (subst (λ (olds : List VersionText). IsTrue c.are_texts_of.result ↔ (olds ≡ map (λ e. (e.now.version, e.now.text)) c.deref.result.now))
    c.as_slice.ensures c.are_texts_of.ensures)
