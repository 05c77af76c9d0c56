use Rattle.std.proofs.Common.{◌++◌, ◌∙◌, ap, codes, rules}
use Rattle.std.proofs.lemmas.Result.{IfOk-weaker}
use Rattle.json.specs.Print.{escape, escape_byte}
use Rattle.reg_levels.specs.Message.{text_of}
use Rattle.reg_lookup.proofs.BodyTexts.{check_body-told}
use Rattle.reg_lookup.proofs.bodies.check_body.Goals as goal

pub returns-then-not-verbose : goal.returns-then-not-verbose
unfolding escape_byte
returns-then-not-verbose c =
    rw c.if-not-verbose.true (IfOk-weaker c.of_string.result _ _ (λ _ same. same ∙ search rules) c.of_string.ensures)

pub returns-in_default : goal.returns-in_default
unfolding escape_byte
returns-in_default c =
    rw (c.if-not-verbose.false, c.in_default.is)
    (IfOk-weaker c.of_string-in_default.result _ _ (λ _ same. same ∙ search rules) c.of_string-in_default.ensures)

pub returns : goal.returns
returns c =
    let message = text_of c.in-Some.clash in
    rw (c.if-not-verbose.false, c.in-Some.is)
    (IfOk-weaker c.of_string-2.result _ _ (λ _ same.
    same
    ∙ c.in_ok-push_str.ensures.bytes
    ∙ ap (λ l. l ++ codes "\"]}") c.in_ok-body.ensures
    ∙ ap (λ l. (l ++ escape message) ++ codes "\"]}") c.in_ok-front.ensures.ok
    ∙ check_body-told c.args.ok message) c.of_string-2.ensures)
