use Rattle.std.proofs.Common.{◌≡◌, List, ℕ, IfOk, Option, subst}
use Rattle.std.proofs.lemmas.Str.{IsUtf8-from_is_utf8}
use Rattle.reg_inspection.specs.Foreign.{keytype_in}
use Rattle.reg_inspection.proofs.foreign.keytype_in.Goals as goal

pub returns-in-Ok : goal.returns-in-Ok
returns-in-Ok c read says =
    subst (λ (l : List ℕ).
    IfOk c.keytype_of.result (λ (k : Option (List ℕ)). k ≡ keytype_in l)) c.in-Ok.ensures.cases.0 c.keytype_of.ensures

pub returns-in-Err : goal.returns-in-Err
returns-in-Err c read says =
    let spelled = c.lines_are_of_the_grammar.ensures.read c.args.line.now read says in
    absurd (c.in-Err.ensures.cases.0 (IsUtf8-from_is_utf8 _ spelled.3.utf8))
