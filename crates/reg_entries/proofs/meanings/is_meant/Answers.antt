use Rattle.std.proofs.Common.{◌≡◌, ◌&&◌, ◌==◌, true, false, [], sym, ap, subst, ◌∙◌, rules, tests}
use Rattle.std.proofs.lemmas.Bool.{false≢true}
use Rattle.std.specs.BTreeMap.Range.{IsLeBy}
use Rattle.std.specs.BTreeSet.{IsKeyInRange, contains}
use Rattle.std.specs.List.{slice_get}
use Rattle.std.specs.Ordering.{is_gt}
use Rattle.std.specs.Prelude.{◌↔◌, IfSome}
use Rattle.std.specs.declared.ops.Bound.TheVariants.{Included, Unbounded}
use Rattle.reg_entries.specs.EntryOrder.{Place}
use Rattle.reg_entries.specs.Meanings.{IsMeant}
use Rattle.reg_entries.specs.Schemas.{schema_cmp}
use Rattle.reg_entries.proofs.Meant.{from_both, meant_found}
use Rattle.reg_entries.proofs.meanings.is_meant.Goals as goal

pub returns-in-None : goal.returns-in-None
returns-in-None c =
    let first = c.args.first.now in
    let from : (p : Place) → is_gt (schema_cmp first (first.0, first.1, p)) ≡ false = λ p.
    subst (λ q. is_gt (schema_cmp (first.0, first.1, q) (first.0, first.1, p)) ≡ false)
    (sym c.requires) (from_both first.0 first.1 p) in (
      λ h. absurd (false≢true h),
      λ h.
          absurd (
          false≢true (sym ((c.range.ensures.in_range tt).5 c.in-None.ensures.steps.0 (first.0, first.1, h.0) (from h.0, tt)) ∙ h.1)),
    )

pub returns-then-eq : goal.returns-then-eq
returns-then-eq c =
    let first = c.args.first.now in
    let k = c.in-Some.found.now in
    let from : (p : Place) → is_gt (schema_cmp first (first.0, first.1, p)) ≡ false = λ p.
    subst (λ q. is_gt (schema_cmp (first.0, first.1, q) (first.0, first.1, p)) ≡ false)
    (sym c.requires) (from_both first.0 first.1 p) in
    let is_first : IsKeyInRange schema_cmp (Included first) Unbounded c.args.schemas.now k =
    subst (λ r. IfSome (slice_get r 0) (IsKeyInRange schema_cmp (Included first) Unbounded c.args.schemas.now)) c.in-Some.ensures.steps
    (c.range.ensures.in_range tt).1 in
    let lower : (p : Place) → contains schema_cmp c.args.schemas.now (first.0, first.1, p) ≡ true
    → is_gt (schema_cmp k (first.0, first.1, p)) ≡ false =
    λ p has.
    subst (λ r. IfSome (slice_get r 0) (λ k. IsLeBy schema_cmp k (first.0, first.1, p))) c.in-Some.ensures.steps
    ((c.range.ensures.in_range tt).2 (first.0, first.1, p) (from p, tt) has) in
    let after : is_gt (schema_cmp (first.0, first.1, ([], 0)) k) ≡ false =
    subst (λ q. is_gt (schema_cmp (first.0, first.1, q) k) ≡ false) c.requires is_first.0.0 in
    subst (λ b. ((b && k.1 == first.1) ≡ true) ↔ IsMeant c.args.schemas.now (first.1, first.0))
    (sym c.if-eq.ensures) (meant_found c.args.schemas.now first.0 first.1 k is_first.1 after lower)

pub returns-else-eq : goal.returns-else-eq
returns-else-eq c =
    let first = c.args.first.now in
    let k = c.in-Some.found.now in
    let from : (p : Place) → is_gt (schema_cmp first (first.0, first.1, p)) ≡ false = λ p.
    subst (λ q. is_gt (schema_cmp (first.0, first.1, q) (first.0, first.1, p)) ≡ false)
    (sym c.requires) (from_both first.0 first.1 p) in
    let is_first : IsKeyInRange schema_cmp (Included first) Unbounded c.args.schemas.now k =
    subst (λ r. IfSome (slice_get r 0) (IsKeyInRange schema_cmp (Included first) Unbounded c.args.schemas.now)) c.in-Some.ensures.steps
    (c.range.ensures.in_range tt).1 in
    let lower : (p : Place) → contains schema_cmp c.args.schemas.now (first.0, first.1, p) ≡ true
    → is_gt (schema_cmp k (first.0, first.1, p)) ≡ false =
    λ p has.
    subst (λ r. IfSome (slice_get r 0) (λ k. IsLeBy schema_cmp k (first.0, first.1, p))) c.in-Some.ensures.steps
    ((c.range.ensures.in_range tt).2 (first.0, first.1, p) (from p, tt) has) in
    let after : is_gt (schema_cmp (first.0, first.1, ([], 0)) k) ≡ false =
    subst (λ q. is_gt (schema_cmp (first.0, first.1, q) k) ≡ false) c.requires is_first.0.0 in
    let no : c.eq.result ≡ false = search (rules, tests) in
    subst (λ b. (b ≡ true) ↔ IsMeant c.args.schemas.now (first.1, first.0)) (sym no)
    (subst (λ b. ((b && k.1 == first.1) ≡ true) ↔ IsMeant c.args.schemas.now (first.1, first.0))
    (sym c.if-eq.ensures) (meant_found c.args.schemas.now first.0 first.1 k is_first.1 after lower))
