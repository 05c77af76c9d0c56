use Rattle.std.proofs.Common.{ap, ◌∙◌, sym}
use Rattle.std.specs.Prelude.{nat_eq, codes}
use Rattle.std.specs.List.{starts_with}
use Rattle.std.proofs.Math.Bool.{and-true}
use Rattle.std.proofs.lemmas.Str.{is_utf8-from_IsUtf8}
use Rattle.reg_routes.proofs.target.is_path.Goals as goal

pub returns : goal.returns
returns c =
    rw (is_utf8-from_IsUtf8 _ c.utf8.target)
    (c.starts_with.ensures.value ∙ ap (λ t. starts_with nat_eq t (codes "/")) c.as_bytes.ensures.value ∙ sym (and-true _))
