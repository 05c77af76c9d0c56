use Rattle.std.proofs.Common.{◌≡◌, ◌⊎◌, inl, inr, List, Some, refl, ap, sym, ◌∙◌}
use Rattle.std.specs.Prelude.{string_eq}
use Rattle.reg_judge.specs.Judge.{with_text}
use Rattle.reg_judge.specs.Kept.{AreSchemas, IsSchemaOf, texts_in}
use Rattle.reg_judge.proofs.Keeping.{either, with_put}
use Rattle.reg_judge.proofs.TextsOut.{put_is_kept}
use Rattle.reg_judge.proofs.Texts.{of_equal}
use Rattle.reg_judge.proofs.schemas.keep.Goals as goal

pub returns-clause-schemas : goal.returns-clause-schemas
unfolding IsSchemaOf
returns-clause-schemas c =
    let kept = c.of.result in
    let is : IsSchemaOf (c.source.inside.text, kept) = c.source.invariant ∙ sym (ap Some c.of.ensures) in
    either c.put-kept.result
    (λ cache. AreSchemas cache.entries) c.put-kept.new.self _ c.args.kept.now c.put-kept.ensures.entries c.put-kept.ensures.err
    (with_put IsSchemaOf string_eq c.args.kept.now c.source.inside.text kept c.requires is (λ j. of_equal c.source.inside.text j kept is))
    c.requires

pub returns-clause-capacity : goal.returns-clause-capacity
returns-clause-capacity c =
    either c.put-kept.result
    (λ cache. cache.cap ≡ c.args.kept.now.cap) c.put-kept.new.self _ c.args.kept.now c.put-kept.ensures.entries c.put-kept.ensures.err refl refl

pub returns-clause-kept : goal.returns-clause-kept
returns-clause-kept c =
    let was = c.args.kept.now in
    either c.put-kept.result
    (λ cache. (texts_in cache.entries ≡ texts_in was.entries) ⊎ (texts_in cache.entries ≡ with_text was.cap c.args.source (texts_in was.entries)))
    c.put-kept.new.self _ was c.put-kept.ensures.entries c.put-kept.ensures.err
    (inr (put_is_kept _ c.source.inside.text was c.of.result ∙ ap (λ (t : List _). with_text was.cap t (texts_in was.entries)) c.source.view_is))
    (inl refl)
