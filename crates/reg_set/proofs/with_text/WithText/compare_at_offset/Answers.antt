use Rattle.std.proofs.Common.{◌≡◌, ◌∙◌, sym, ap}
use Rattle.std.specs.Cmp.Lexicographic.{slice_cmp}
use Rattle.std.specs.FinSet.{nat_cmp-IsAntisymmetric, slice_cmp-IsAntisymmetric}
use Rattle.std.specs.Ordering.{nat_cmp}
use Rattle.reg_records.specs.Written.{written_key}
use Rattle.reg_set.proofs.Orders.{record_cmp-by_text}
use Rattle.reg_set.proofs.with_text.WithText.compare_at_offset.Goals as goal

pub returns-in_default : goal.returns-in_default
returns-in_default c =
    let one = c.self.invariant ∙ ap (λ r. written_key r.key) c.self.view_is in
    let other = c.other.invariant ∙ ap (λ r. written_key r.key) c.other.view_is in
    let at : c.cmp.result ≡ slice_cmp nat_cmp (written_key c.args.self.now.key) (written_key c.args.other.now.key) =
    c.cmp.ensures ∙ (λ i. slice_cmp nat_cmp (one i) (other i)) in
    at ∙ record_cmp-by_text c.args.self.now c.args.other.now c.requires (λ e. c.in_default.not-Equal (at ∙ e))

pub compare_at_text-requires-clause-text : goal.compare_at_text-requires-clause-text
compare_at_text-requires-clause-text c =
    let one = c.self.invariant ∙ ap (λ r. written_key r.key) c.self.view_is in
    let other = c.other.invariant ∙ ap (λ r. written_key r.key) c.other.view_is in
    sym one ∙ slice_cmp-IsAntisymmetric nat_cmp-IsAntisymmetric _ _ (sym c.cmp.ensures ∙ c.in-Equal.is) ∙ other
