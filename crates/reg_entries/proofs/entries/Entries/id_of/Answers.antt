use Rattle.std.proofs.Common.{◌≡◌, true, false, [], sym, ap, subst, ◌∙◌}
use Rattle.std.proofs.lemmas.Bool.{false≢true}
use Rattle.std.proofs.lemmas.Slice.Eq.{bytes_eq-Decides}
use Rattle.std.specs.BTreeMap.Range.{IsLeBy}
use Rattle.std.specs.BTreeSet.{contains, IsKeyInRange}
use Rattle.std.specs.FinMap as finmap
use Rattle.std.specs.List.{slice_get}
use Rattle.std.specs.Ordering.{is_gt}
use Rattle.std.specs.Prelude.{IfSome}
use Rattle.std.specs.declared.ops.Bound.TheVariants.{Included, Unbounded}
use Rattle.reg_entries.specs.Schemas.{Schema, schema_cmp}
use Rattle.reg_entries.specs.Sought.{id_of}
use Rattle.reg_entries.proofs.Texts.{from_first, id_of_none, id_of_some, passed}
use Rattle.reg_entries.proofs.Views.{values-view}
use Rattle.reg_entries.proofs.entries.Entries.id_of.Goals as goal

pub returns-in_default : goal.returns-in_default
returns-in_default c =
    let a = c.self.inside in
    let t = c.args.normal.now in
    let i = c.self.invariant.0 in
    let from : (s : Schema) → s.0 ≡ t → is_gt (schema_cmp c.in_ok-least.least s) ≡ false =
    λ s same. ap (λ k. is_gt (schema_cmp k s)) c.in_ok-least.ensures ∙ from_first t s same in
    let none : (s : Schema) → s.0 ≡ t → contains schema_cmp a.schemas s ≡ true → ⊥ =
    λ s same has. false≢true (sym ((c.range.ensures.in_range tt).5 c.in_default.ensures.steps.0 s (from s same, tt)) ∙ has) in
    sym (id_of_none a.entries a.schemas i.ordered i.placed c.self.invariant.1 t none)
    ∙ ap (λ es. id_of es t) (sym (values-view a.entries i.ordered) ∙ ap finmap.values c.self.view_is)

pub returns-then-eq : goal.returns-then-eq
returns-then-eq c =
    let a = c.self.inside in
    let t = c.args.normal.now in
    let i = c.self.invariant.0 in
    let k = c.in-Some.first.now in
    let from : (s : Schema) → s.0 ≡ t → is_gt (schema_cmp c.in_ok-least.least s) ≡ false =
    λ s same. ap (λ k. is_gt (schema_cmp k s)) c.in_ok-least.ensures ∙ from_first t s same in
    let is_first : IsKeyInRange schema_cmp (Included c.in_ok-least.least) Unbounded a.schemas k =
    subst (λ r. IfSome (slice_get r 0) (IsKeyInRange schema_cmp (Included c.in_ok-least.least) Unbounded a.schemas))
    c.in-Some.ensures.steps (c.range.ensures.in_range tt).1 in
    let lower : (s : Schema) → s.0 ≡ t → contains schema_cmp a.schemas s ≡ true → is_gt (schema_cmp k s) ≡ false =
    λ s same has.
    subst (λ r. IfSome (slice_get r 0) (λ k. IsLeBy schema_cmp k s)) c.in-Some.ensures.steps
    ((c.range.ensures.in_range tt).2 s (from s same, tt) has) in
    let text : k.0 ≡ t = (bytes_eq-Decides _ _).0 (sym c.if-eq.ensures) ∙ ap (λ (s : Schema). s.0) c.in_ok-least.ensures in
    sym (id_of_some a.entries a.schemas i.ordered i.placed c.self.invariant.1 t k is_first.1 text lower)
    ∙ ap (λ es. id_of es t) (sym (values-view a.entries i.ordered) ∙ ap finmap.values c.self.view_is)

pub returns : goal.returns
returns c =
    let a = c.self.inside in
    let t = c.args.normal.now in
    let i = c.self.invariant.0 in
    let k = c.in-Some.first.now in
    let from : (s : Schema) → s.0 ≡ t → is_gt (schema_cmp c.in_ok-least.least s) ≡ false =
    λ s same. ap (λ k. is_gt (schema_cmp k s)) c.in_ok-least.ensures ∙ from_first t s same in
    let is_first : IsKeyInRange schema_cmp (Included c.in_ok-least.least) Unbounded a.schemas k =
    subst (λ r. IfSome (slice_get r 0) (IsKeyInRange schema_cmp (Included c.in_ok-least.least) Unbounded a.schemas))
    c.in-Some.ensures.steps (c.range.ensures.in_range tt).1 in
    let lower : (s : Schema) → s.0 ≡ t → contains schema_cmp a.schemas s ≡ true → is_gt (schema_cmp k s) ≡ false =
    λ s same has.
    subst (λ r. IfSome (slice_get r 0) (λ k. IsLeBy schema_cmp k s)) c.in-Some.ensures.steps
    ((c.range.ensures.in_range tt).2 s (from s same, tt) has) in
    let apart : ¬ (k.0 ≡ t) =
    λ same. false≢true (c.if-eq.ensures ∙ (bytes_eq-Decides _ _).1 (same ∙ sym (ap (λ (s : Schema). s.0) c.in_ok-least.ensures))) in
    let after : is_gt (schema_cmp (t, 0, ([], 0)) k) ≡ false =
    sym (ap (λ l. is_gt (schema_cmp l k)) c.in_ok-least.ensures) ∙ is_first.0.0 in
    sym (
    id_of_none a.entries a.schemas i.ordered i.placed c.self.invariant.1 t (λ s same has.
    passed t k s apart after same (lower s same has)))
    ∙ ap (λ es. id_of es t) (sym (values-view a.entries i.ordered) ∙ ap finmap.values c.self.view_is)
