use Rattle.std.proofs.Common.{◌≡◌, ◌++◌, ◌∙◌, ℕ, List, ap, sym, codes}
use Rattle.std.proofs.lemmas.List.{append_assoc}
use Rattle.reg_responses.specs.Response.{allow_field, closing_field, head_text}
use Rattle.reg_responses.proofs.writing.write_head.Goals as goal

in_three : (a b c whole rest : List ℕ) → a ++ (b ++ c) ≡ whole → a ++ (b ++ (c ++ rest)) ≡ whole ++ rest
in_three a b c whole rest e =
    ap (λ t. a ++ t) (sym (append_assoc b c rest)) ∙ sym (append_assoc a (b ++ c) rest) ∙ ap (λ t. t ++ rest) e

pub returns-clause-written : goal.returns-clause-written
unfolding head_text
returns-clause-written g c =
    let parts = c.allow_field.result in
    let allow = in_three parts.0.now parts.1.now parts.2.now (allow_field c.args.allow)
    (closing_field c.args.closes ++ codes "\r\n") c.allow_field.ensures in
    rw (c.from.ensures, c.phrase_of.ensures, c.closing_field.ensures, allow) at c.write_pieces.ensures.written
