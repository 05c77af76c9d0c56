use Rattle.std.proofs.Common.{◌≡◌, ◌++◌, ◌∙◌, false, true, ap, sym, subst}
use Rattle.std.specs.Prelude.{IsOk}
use Rattle.std.specs.Str.{IsUtf8}
use Rattle.std.proofs.lemmas.Result.{IfOk-weaker}
use Rattle.json.specs.Print.{print}
use Rattle.reg_lookup.proofs.bodies.ended.Goals as goal

pub unreachable-requires : goal.unreachable-requires
unreachable-requires c =
    let items = c.into_inner.ensures.items ∙ ap (λ b. b ++ print c.args.body.tokens) c.requires in
    let is_text = subst IsUtf8 (sym items) c.into_inner.ensures.utf8 in
    let no : false ≡ true = subst IsOk c.in-Err.is (c.from_utf8.ensures.succeeds is_text) in cc

pub returns : goal.returns
returns c =
    let items = c.into_inner.ensures.items ∙ ap (λ b. b ++ print c.args.body.tokens) c.requires in
    IfOk-weaker c.of_string.result _ _ (λ _ same. same ∙ ap (λ v. v.items) c.in-Ok.ensures.ok ∙ items) c.of_string.ensures
