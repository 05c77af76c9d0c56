use Rattle.std.proofs.Common.{[], ◌∷◌, ◌++◌, ◌∙◌, ℕ, List, ap, decimal}
use Rattle.std.specs.Prelude.{codes}
use Rattle.std.proofs.lemmas.Result.{IfOk-weaker}
use Rattle.json.specs.Print.{print}
use Rattle.json.specs.Token.{begin_object, end_object, key, number as number_token, string as string_token}
use Rattle.serde_json.specs.Data.{Data, string, object, member, no_members}
use Rattle.serde_json.specs.Written.{compact_text}
use Rattle.serde_json.proofs.Texts.{print-outline}
use Rattle.reg_lookup.specs.Bodies.{number_data}
use Rattle.reg_lookup.proofs.bodies.entry_body.Goals as goal

abbrev members_of : List ℕ → ℕ → ℕ → List ℕ → Data
members_of subject version id text =
    object (member (codes "subject") (string subject)
    (member (codes "version") (number_data version)
    (member (codes "id") (number_data id) (member (codes "schema") (string text) no_members))))

pub returns : goal.returns
returns c =
    let e = c.args.entry.now in
    let s = c.as_str-2.result.now in
    let v = c.from.result in
    let i = c.from-2.result in
    let t = c.as_str-3.result.now in
    let begun = c.in_ok-begin_object.ensures.ok ∙ ap (λ ts. ts ++ begin_object ∷ []) c.in_ok-body.ensures.tokens in
    let for_subject = c.in_ok-key.ensures.ok ∙ ap (λ ts. ts ++ key (codes "subject") ∷ []) begun in
    let subject = c.in_ok-string.ensures.ok ∙ ap (λ ts. ts ++ string_token s ∷ []) for_subject in
    let for_version = c.in_ok-key-2.ensures.ok ∙ ap (λ ts. ts ++ key (codes "version") ∷ []) subject in
    let version = c.in_ok-u64.ensures.ok ∙ ap (λ ts. ts ++ number_token (decimal v) ∷ []) for_version in
    let for_id = c.in_ok-key-3.ensures.ok ∙ ap (λ ts. ts ++ key (codes "id") ∷ []) version in
    let id = c.in_ok-u64-2.ensures.ok ∙ ap (λ ts. ts ++ number_token (decimal i) ∷ []) for_id in
    let for_schema = c.in_ok-key-4.ensures.ok ∙ ap (λ ts. ts ++ key (codes "schema") ∷ []) id in
    let schema = c.in_ok-string-2.ensures.ok ∙ ap (λ ts. ts ++ string_token t ∷ []) for_schema in
    let tokens = c.in_ok-end_object.ensures.ok ∙ ap (λ ts. ts ++ end_object ∷ []) schema in
    let of_entry =
    ap (λ x. compact_text (members_of x v i t)) c.as_str-2.ensures
    ∙ ap (λ x. compact_text (members_of e.subject x i t)) c.from.ensures
    ∙ ap (λ x. compact_text (members_of e.subject e.version x t)) c.from-2.ensures
    ∙ ap (λ x. compact_text (members_of e.subject e.version e.id x)) c.as_str-3.ensures in
    IfOk-weaker c.ended.result _ _ (λ _ same. same ∙ ap print tokens ∙ print-outline (members_of s v i t) ∙ of_entry) c.ended.ensures
