use Rattle.std.proofs.Common.{◌≡◌, ◌∙◌}
use Rattle.std.specs.Ordering.{nat_cmp}
use Rattle.reg_set.proofs.Orders.{record_cmp-by_offset}
use Rattle.reg_set.proofs.with_text.WithText.compare.Goals as goal

pub returns-in_default : goal.returns-in_default
returns-in_default c =
    let at : c.cmp.result ≡ nat_cmp c.args.self.now.offset c.args.other.now.offset =
    c.cmp.ensures ∙ (λ i. nat_cmp (c.self.view_is i).offset (c.other.view_is i).offset) in
    at ∙ record_cmp-by_offset c.args.self.now c.args.other.now (λ e. c.in_default.not-Equal (at ∙ e))
