use Rattle.std.proofs.Common.{Result, Ok, Err, refl}
use Rattle.std.specs.Result.{OnErr}
use Rattle.reg_fold.proofs.registry.Registry.apply_to_copy.Goals as goal

in_any_case : {T E P : Type 0} (r : Result T E) → P → OnErr r P
in_any_case (Ok _) holds = tt
in_any_case (Err _) holds = holds

pub returns-in_err-apply_each-clause-refused : goal.returns-in_err-apply_each-clause-refused
returns-in_err-apply_each-clause-refused c = in_any_case c.from_residual-in_err-apply_each.result refl
