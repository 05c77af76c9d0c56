use Rattle.std.proofs.Common.{◌≡◌, ◌∙◌, sym, ap}
use Rattle.std.proofs.lemmas.Cmp.{nat_list_cmp_total, tied_itself}
use Rattle.std.specs.Cmp.Lexicographic.{slice_cmp}
use Rattle.std.specs.Ordering.{nat_cmp}
use Rattle.std.specs.declared.cmp.Ordering.TheVariants.{Equal}
use Rattle.reg_records.specs.Written.{written_key}
use Rattle.reg_set.specs.RecordOrder.{key_cmp, value_cmp}
use Rattle.reg_set.proofs.Orders.{key_cmp-ties, record_cmp-by_key, record_cmp-by_value}
use Rattle.reg_set.proofs.with_text.WithText.compare_at_text.Goals as goal

pub returns-in-Equal : goal.returns-in-Equal
unfolding value_cmp
returns-in-Equal c =
    let one = c.args.self.now in
    let other = c.args.other.now in
    let tie : key_cmp one.key other.key ≡ Equal =
    sym (c.cmp.ensures ∙ (λ i. key_cmp (c.self.view_is i).key (c.other.view_is i).key)) ∙ c.in-Equal.is in
    c.cmp-in-Equal.ensures ∙ (λ i. value_cmp (c.self.view_is i).value (c.other.view_is i).value)
    ∙ record_cmp-by_value one other c.requires.offset (key_cmp-ties one.key other.key tie)

pub returns-in_default : goal.returns-in_default
returns-in_default c =
    let one = c.args.self.now in
    let other = c.args.other.now in
    let texts : slice_cmp nat_cmp (written_key one.key) (written_key other.key) ≡ Equal =
    ap (slice_cmp nat_cmp (written_key one.key)) (sym c.requires.text) ∙ tied_itself nat_list_cmp_total (written_key one.key) in
    let at : c.cmp.result ≡ key_cmp one.key other.key =
    c.cmp.ensures ∙ (λ i. key_cmp (c.self.view_is i).key (c.other.view_is i).key) in
    at ∙ record_cmp-by_key one other c.requires.offset texts (λ e. c.in_default.not-Equal (at ∙ e))
