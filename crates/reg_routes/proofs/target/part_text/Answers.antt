use Rattle.std.proofs.Common.{◌∙◌, refl, sym, subst}
use Rattle.std.specs.Str.{IsUtf8}
use Rattle.std.proofs.lemmas.Str.{is_utf8-from_IsUtf8}
use Rattle.percent_encoding.specs.Percent.{percent_decode}
use Rattle.reg_routes.proofs.Texts.{is_utf8-not}
use Rattle.reg_routes.proofs.target.part_text.Goals as goal

pub returns-in-Ok : goal.returns-in-Ok
returns-in-Ok c =
    let text : IsUtf8 (percent_decode c.args.part.now) = subst IsUtf8 c.percent_decode.ensures.bytes c.in-Ok.ensures.ok_only_if_utf8 in
    let same = c.of.ensures ∙ c.in-Ok.ensures.value ∙ c.percent_decode.ensures.bytes in
    rw (is_utf8-from_IsUtf8 _ text, same) refl

pub returns-in-Err-Utf8 : goal.returns-in-Err-Utf8
returns-in-Err-Utf8 c =
    let not_text : IsUtf8 (percent_decode c.args.part.now) → ⊥ =
    λ text. let e = c.in-Err-Utf8.ensures.utf8 (subst IsUtf8 (sym c.percent_decode.ensures.bytes) text) in cc in
    rw (is_utf8-not _ not_text) refl
