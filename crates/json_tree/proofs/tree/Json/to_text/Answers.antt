use Rattle.std.proofs.Common.{◌≡◌, [], ◌++◌, string_bytes, ap, ◌∙◌}
use Rattle.json.specs.Print.{print}
use Rattle.json.specs.Tree.{json_tokens}
use Rattle.serde_json.specs.Written.{outline}
use Rattle.serde_json.proofs.Texts.{print-outline}
use Rattle.json_tree.specs.View.{view}
use Rattle.json_tree.proofs.tree.Json.to_text.Goals as goal

pub returns : goal.returns
returns c =
    let out = c.write.new.out in
    let before : out.before ≡ [] = c.write.ensures.before ∙ c.new-out.ensures.before ∙ c.in_ok-with_capacity.ensures.items in
    let tokens : out.tokens ≡ json_tokens (outline (view c.args.self.now)) =
    c.in_ok-write.ensures.ok ∙ ap (λ ts. ts ++ json_tokens (outline (view c.args.self.now))) c.new-out.ensures.tokens in
    let bytes : string_bytes c.in-Ok.text ≡ c.into_inner.result.items = ap (λ v. v.items) c.in-Ok.ensures.ok in
    bytes ∙ c.into_inner.ensures.items ∙ ap (λ b. b ++ print out.tokens) before ∙ ap print tokens ∙ print-outline (view c.args.self.now)
