use Rattle.std.proofs.Common.{sym, refl}
use Rattle.std.proofs.lemmas.Str.{is_utf8-from_IsUtf8}
use Rattle.reg_requests.specs.Body.{body_of}
use Rattle.reg_requests.proofs.Texts.{is_utf8-not}
use Rattle.reg_requests.proofs.body.object_in.Goals as goal

pub returns-in_default : goal.returns-in_default
unfolding body_of
returns-in_default c = rw (is_utf8-not _ c.in_default.ensures.cases.0) refl

pub returns-then-is_object : goal.returns-then-is_object
unfolding body_of
returns-then-is_object c =
    rw (
      is_utf8-from_IsUtf8 _ c.in-Ok.ensures.cases.1,
      sym c.in-Ok.ensures.cases.0,
      c.in-Ok-from_str.ensures.ok,
      sym c.if-is_object.ensures,
    ) refl
