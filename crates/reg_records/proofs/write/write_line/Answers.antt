use Rattle.std.proofs.Common.{◌≡◌, ◌≤◌, ◌++◌, [], ◌∷◌, length, string_bytes, ap, sym, ◌∙◌, arith, rules}
use Rattle.std.specs.Str.{is_utf8}
use Rattle.std.proofs.lemmas.Str.{is_utf8-from_IsUtf8, IsUtf8-string_bytes}
use Rattle.reg_records.specs.declared.limits.TheConstants.{LINE_LIMIT}
use Rattle.reg_records.specs.Line.{reading_at_front}
use Rattle.reg_records.specs.Written.{line_text}
use Rattle.reg_records.proofs.WrittenLines.{reading_at_front-written_line}
use Rattle.reg_records.proofs.write.write_line.Goals as goal

pub returns-clause-reads_back : goal.returns-clause-reads_back
returns-clause-reads_back c = λ rest.
    let r = c.args.given.now in
    let text : string_bytes c.in_ok-line.line ≡ line_text r = search rules in
    let utf8 = ap is_utf8 (sym text) ∙ is_utf8-from_IsUtf8 _ (IsUtf8-string_bytes c.in_ok-line.line) in
    let fits : length (line_text r) ≤ LINE_LIMIT = omega (arith, ap length text) in
    let written : c.into_bytes.result.items ≡ line_text r ++ 10 ∷ [] = search rules in
    ap (λ line. reading_at_front (line ++ rest)) written ∙ reading_at_front-written_line r c.requires utf8 fits rest
