use Rattle.std.proofs.Common.{ap, sym, ◌∙◌, option_map}
use Rattle.avro_resolve.proofs.Hops.{of_branch, of_no_branch}
use Rattle.avro_resolve.proofs.follow.writer_branch.Goals as goal

pub returns-in_default : goal.returns-in_default
returns-in_default c = of_no_branch c.args.i c.args.branches.now c.args.hop.now c.in_default.not-Writer

pub returns-in-Some : goal.returns-in-Some
returns-in-Some c =
    rw c.in-Writer.is (
    ap (option_map (λ b. record { reader = c.args.i; writer = b })) c.in-Some.ensures
    ∙ sym (of_branch c.args.i c.args.branches.now c.in-Writer.k))

pub returns-in-None : goal.returns-in-None
returns-in-None c =
    rw c.in-Writer.is (
    ap (option_map (λ b. record { reader = c.args.i; writer = b })) c.in-None.ensures
    ∙ sym (of_branch c.args.i c.args.branches.now c.in-Writer.k))
