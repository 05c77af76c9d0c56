use Rattle.std.proofs.Common.{None, Some, sym, ◌∙◌, ◌++◌, ◌∷◌, [], arith}
use Rattle.std.proofs.lemmas.Str.Pattern.{strip_prefix_char, strip_suffix_char}
use Rattle.json.specs.Print.{escape}
use Rattle.reg_lookup.proofs.Escaping.{after_quote, before_quote}
use Rattle.reg_lookup.proofs.in_string.between_quotes.Goals as goal

pub returns-in_default : goal.returns-in_default
returns-in_default c =
    λ text is. absurd (strip_prefix_char 34 c.args.written.now None c.in_default.ensures.cases (omega arith) (escape text ++ 34 ∷ []) is)

pub returns : goal.returns
returns c = λ text is.
    let front = strip_prefix_char 34 c.args.written.now (Some c.in-Some.rest) c.in-Some.ensures.cases (omega arith) in
    before_quote c.in-Some.rest.now (escape text) c.strip_suffix.result
    (strip_suffix_char 34 c.in-Some.rest.now c.strip_suffix.result c.strip_suffix.ensures.cases (omega arith))
    (after_quote c.in-Some.rest.now (escape text ++ 34 ∷ []) (sym front ∙ is))
