use Rattle.std.proofs.Common.{◌≡◌, Bool, false, true, cond, Ok, Err, length, nat_lt, ap, sym, refl, ◌∙◌, string_bytes, arith}
use Rattle.std.specs.Str.{is_utf8}
use Rattle.std.proofs.lemmas.Bool.{false≢true}
use Rattle.std.proofs.lemmas.Bool.Decides.{nat_tests}
use Rattle.std.proofs.lemmas.Str.{IsUtf8-from_is_utf8, IsUtf8-string_bytes, is_utf8-from_IsUtf8}
use Rattle.reg_records.specs.declared.limits.TheConstants.{LINE_LIMIT}
use Rattle.reg_records.specs.declared.line.LineError.TheVariants.{TooLong, BadUtf8}
use Rattle.reg_records.proofs.text_line.string_of.Goals as goal

unless_true : (b : Bool) → (b ≡ true → ⊥) → b ≡ false
unless_true true h = absurd (h refl)
unless_true false h = refl

pub returns-in-Ok : goal.returns-in-Ok
returns-in-Ok c =
    let bytes = c.args.bytes.items in
    let short : nat_lt LINE_LIMIT (length bytes) ≡ false = grind (arith, nat_tests) in
    let same : string_bytes c.in-Ok.string ≡ bytes = ap (λ v. v.items) c.in-Ok.ensures.ok in
    let utf8 : is_utf8 bytes ≡ true = ap is_utf8 (sym same) ∙ is_utf8-from_IsUtf8 _ (IsUtf8-string_bytes c.in-Ok.string) in
    ap (λ b. cond b (Err TooLong) (cond (is_utf8 bytes) (Ok bytes) (Err BadUtf8))) short
    ∙ ap (λ b. cond b (Ok bytes) (Err BadUtf8)) utf8
    ∙ ap Ok (sym same)

pub returns : goal.returns
returns c =
    let bytes = c.args.bytes.items in
    let short : nat_lt LINE_LIMIT (length bytes) ≡ false = grind (arith, nat_tests) in
    let broken : is_utf8 bytes ≡ false =
    unless_true (is_utf8 bytes) (λ utf8. false≢true (c.in-Err.ensures.succeeds (IsUtf8-from_is_utf8 bytes utf8))) in
    ap (λ b. cond b (Err TooLong) (cond (is_utf8 bytes) (Ok bytes) (Err BadUtf8))) short
    ∙ ap (λ b. cond b (Ok bytes) (Err BadUtf8)) broken
