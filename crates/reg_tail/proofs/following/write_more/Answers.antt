use Rattle.std.proofs.Common.{rules, ◌≡◌, Err}
use Rattle.reg_tail.proofs.following.write_more.Goals as goal

pub returns-in_err-text-clause-cut : goal.returns-in_err-text-clause-cut
returns-in_err-text-clause-cut g c =
    let is : c.from_residual.result ≡ Err c.in_err-text.field-0.0 = search rules in rw is (λ same. absurd (c.in_err-text.ensures.apart same))
