use Rattle.std.proofs.Common.{◌≡◌, ◌+◌, true, [], sym, ap, subst, ◌∙◌}
use Rattle.std.proofs.lemmas.Bool.{false≢true}
use Rattle.std.specs.BTreeSet.{contains}
use Rattle.std.specs.FinMap as finmap
use Rattle.std.specs.Option.{option_copied}
use Rattle.std.specs.declared.cmp.Ordering.TheVariants.{Less}
use Rattle.reg_entries.specs.Index.{Name, name_cmp}
use Rattle.reg_entries.specs.Sought.{named}
use Rattle.reg_entries.proofs.Queries.{named_none, named_some, passed_over, within_bound}
use Rattle.reg_entries.proofs.Views.{values-view}
use Rattle.reg_entries.proofs.entries.Entries.stored_entry_named.Goals as goal

pub returns-in_err-last : goal.returns-in_err-last
returns-in_err-last c =
    let a = c.self.inside in
    let id = c.args.id in
    let within : (x : Name) → x.0 ≡ id → name_cmp x c.name_above-above.result ≡ Less =
    λ x same. subst (λ b. name_cmp x b ≡ Less) (sym c.name_above-above.ensures) (within_bound x id same) in
    let none : (x : Name) → x.0 ≡ id → contains name_cmp a.names x ≡ true → ⊥ =
    λ x same has. false≢true (sym ((c.range.ensures.in_range tt).5 c.in_err-last.ensures.steps.0 x (tt, within x same)) ∙ has) in
    ap option_copied c.from_residual.ensures
    ∙ sym (named_none a.entries a.names a.tops c.self.invariant.0 id none)
    ∙ ap (λ es. named es id) (sym (values-view a.entries c.self.invariant.0.ordered) ∙ ap finmap.values c.self.view_is)

pub returns-then-last-from : goal.returns-then-last-from
returns-then-last-from c =
    let a = c.self.inside in
    let id = c.args.id in
    let within : (x : Name) → x.0 ≡ id → name_cmp x c.name_above-above.result ≡ Less =
    λ x same. subst (λ b. name_cmp x b ≡ Less) (sym c.name_above-above.ensures) (within_bound x id same) in
    let last = (c.range.ensures.in_range tt).3 _ _ c.in_ok-last.ensures.steps in
    let upper = (c.range.ensures.in_range tt).4 _ _ c.in_ok-last.ensures.steps in
    c.get.ensures.value
    ∙ named_some a.entries a.names a.tops c.self.invariant.0 id c.in_ok-last.last.now last.1
    (c.if-last-from.true ∙ c.from.ensures) (λ x same has. upper x (tt, within x same) has)
    ∙ ap (λ es. named es id) (sym (values-view a.entries c.self.invariant.0.ordered) ∙ ap finmap.values c.self.view_is)

pub returns : goal.returns
returns c =
    let a = c.self.inside in
    let id = c.args.id in
    let k = c.in_ok-last.last.now in
    let within : (x : Name) → x.0 ≡ id → name_cmp x c.name_above-above.result ≡ Less =
    λ x same. subst (λ b. name_cmp x b ≡ Less) (sym c.name_above-above.ensures) (within_bound x id same) in
    let last = (c.range.ensures.in_range tt).3 _ _ c.in_ok-last.ensures.steps in
    let upper = (c.range.ensures.in_range tt).4 _ _ c.in_ok-last.ensures.steps in
    let apart : ¬ (k.0 ≡ id) = λ same. c.if-last-from.false (same ∙ sym c.from.ensures) in
    let before : name_cmp k (id + 1, 0, ([], 0)) ≡ Less = subst (λ b. name_cmp k b ≡ Less) c.name_above-above.ensures last.0.1 in
    sym (
    named_none a.entries a.names a.tops c.self.invariant.0 id (λ x same has.
    passed_over k x id apart before same (upper x (tt, within x same) has)))
    ∙ ap (λ es. named es id) (sym (values-view a.entries c.self.invariant.0.ordered) ∙ ap finmap.values c.self.view_is)
