use Rattle.std.proofs.Common.{◌≡◌, ◌+◌, ap, arith, false, get_or, nat_eq, suc, sym, take, ◌∙◌}
use Rattle.std.proofs.Math.Seq.{take-suc}
use Rattle.std.proofs.lemmas.Bool.Decides.{nat_tests}
use Rattle.reg_messages.specs.Head.{ends_in_empty_line}
use Rattle.reg_messages.proofs.Heads.{unended-by}
use Rattle.reg_messages.proofs.lines.ends_empty_line.Goals as goal

pub returns-else-bytes-at-eq10 : goal.returns-else-bytes-at-eq10
returns-else-bytes-at-eq10 c =
    let bytes = c.args.bytes.now in
    let b = get_or bytes c.args.at 0 in
    let kept : nat_eq b 10 ≡ false = grind (arith, nat_tests, c.if-bytes-at-eq10.false) in
    let other : nat_eq 10 b ≡ false = grind (arith, nat_tests, c.if-bytes-at-eq10.false) in
    let at : c.args.at + 1 ≡ suc c.args.at = omega arith in
    kept ∙ sym (ap (λ n. ends_in_empty_line (take n bytes)) at
    ∙ ap ends_in_empty_line (take-suc bytes c.args.at 0 (omega (arith, c.requires.within)))
    ∙ unended-by (take c.args.at bytes) b other)
