use Rattle.std.proofs.Common.{[], ◌∷◌, ◌++◌, ◌∙◌, ℕ, List, ap, append_assoc, arith, decimal}
use Rattle.std.specs.Prelude.{codes}
use Rattle.std.proofs.lemmas.Result.{IfOk-weaker}
use Rattle.json.specs.Token.{Token, begin_object, end_object, key, number as number_token, string as string_token}
use Rattle.json.specs.Tree.{json_tokens}
use Rattle.serde_json.specs.Written.{outline}
use Rattle.reg_lookup.specs.Bodies.{place_data}
use Rattle.reg_lookup.proofs.ListTokens.{listed-all, listed-more}
use Rattle.reg_lookup.proofs.bodies.places_body.Goals as goal

-- the tokens of a subject and a version
abbrev place_tokens : List ℕ → ℕ → List Token
place_tokens subject version =
    begin_object
    ∷ key (codes "subject")
    ∷ string_token subject
    ∷ key (codes "version")
    ∷ number_token (decimal version)
    ∷ end_object
    ∷ []

pub loop-entry-preserved : goal.loop-entry-preserved
loop-entry-preserved c =
    let old = c.loop-entry.body.tokens in
    let s = c.as_str.result.now in
    let v = c.from.result in
    let x = c.entry-item.result in
    let begun = c.in_ok-begin_object.ensures.ok in
    let for_subject =
    c.in_ok-key.ensures.ok ∙ ap (λ ts. ts ++ key (codes "subject") ∷ []) begun ∙ append_assoc old (begin_object ∷ []) _ in
    let subject = c.in_ok-string.ensures.ok ∙ ap (λ ts. ts ++ string_token s ∷ []) for_subject ∙ append_assoc old _ _ in
    let for_version = c.in_ok-key-2.ensures.ok ∙ ap (λ ts. ts ++ key (codes "version") ∷ []) subject ∙ append_assoc old _ _ in
    let version = c.in_ok-u64.ensures.ok ∙ ap (λ ts. ts ++ number_token (decimal v) ∷ []) for_version ∙ append_assoc old _ _ in
    let written = c.in_ok-end_object.ensures.ok ∙ ap (λ ts. ts ++ end_object ∷ []) version ∙ append_assoc old _ _ in
    let of_entry =
    ap (λ y. old ++ place_tokens y v) c.as_str.ensures
    ∙ ap (λ y. old ++ place_tokens x.now.subject y) c.from.ensures
    ∙ ap (λ y. old ++ json_tokens (outline (place_data y.now))) c.entry-item.is in (
      c.in_ok-end_object.ensures.room.0
          ∙ c.in_ok-u64.ensures.room.0
          ∙ c.in_ok-key-2.ensures.room.0
          ∙ c.in_ok-string.ensures.room.0
          ∙ c.in_ok-key.ensures.room.0
          ∙ c.in_ok-begin_object.ensures.room.0
          ∙ c.loop-entry.invariant.0,
      listed-more (λ e. place_data e.now) c.args.entries.now _ x old _ c.loop-entry-test.true c.loop-entry.invariant.1 (written ∙ of_entry),
    )

pub returns : goal.returns
returns c =
    IfOk-weaker c.ended.result _ _ (λ _ same.
    same
    ∙ listed-all place_data (λ x. x.now) c.args.entries.now _ _ _ (omega arith) c.loop-entry.invariant.1 c.in_ok-end_array.ensures.ok)
    c.ended.ensures
