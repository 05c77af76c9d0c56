use Rattle.std.proofs.Common.{◌≡◌, [], ◌∷◌, ◌++◌, string_bytes, ap, ◌∙◌}
use Rattle.json.specs.Print.{print}
use Rattle.json.specs.Token.{string as string_token}
use Rattle.serde_json.specs.Data.{string}
use Rattle.serde_json.proofs.Texts.{print-outline}
use Rattle.reg_records.proofs.members.quoted.Goals as goal

pub returns : goal.returns
returns c =
    let out = c.string.new.self in
    let text = c.args.text.now in
    let before : out.before ≡ [] = c.in_ok-string.ensures.room.0 ∙ c.new-out.ensures.before ∙ c.new.ensures.items in
    let tokens : out.tokens ≡ string_token text ∷ [] =
    c.in_ok-string.ensures.ok ∙ ap (λ ts. ts ++ string_token text ∷ []) c.new-out.ensures.tokens in
    let bytes : string_bytes c.in-Ok.written ≡ c.into_inner.result.items = ap (λ v. v.items) c.in-Ok.ensures.ok in
    bytes ∙ c.into_inner.ensures.items ∙ ap (λ b. b ++ print out.tokens) before ∙ ap print tokens ∙ print-outline (string text)
