use Rattle.std.proofs.Common.{[], ◌∷◌, ◌++◌, ◌∙◌, ap}
use Rattle.std.specs.Prelude.{codes}
use Rattle.std.proofs.lemmas.Result.{IfOk-weaker}
use Rattle.json.specs.Print.{print}
use Rattle.json.specs.Token.{begin_object, end_object, key, string as string_token}
use Rattle.serde_json.specs.Data.{string, object, member, no_members}
use Rattle.serde_json.proofs.Texts.{print-outline}
use Rattle.reg_lookup.proofs.bodies.schema_body.Goals as goal

pub returns : goal.returns
returns c =
    let text = c.args.text.now in
    let begun = c.in_ok-begin_object.ensures.ok ∙ ap (λ ts. ts ++ begin_object ∷ []) c.in_ok-body.ensures.tokens in
    let named = c.in_ok-key.ensures.ok ∙ ap (λ ts. ts ++ key (codes "schema") ∷ []) begun in
    let given = c.in_ok-string.ensures.ok ∙ ap (λ ts. ts ++ string_token text ∷ []) named in
    let tokens = c.in_ok-end_object.ensures.ok ∙ ap (λ ts. ts ++ end_object ∷ []) given in
    IfOk-weaker c.ended.result _ _ (λ _ same.
    same ∙ ap print tokens ∙ print-outline (object (member (codes "schema") (string text) no_members))) c.ended.ensures
