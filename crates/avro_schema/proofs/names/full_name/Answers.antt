use Rattle.std.proofs.Common.{◌≡◌, ◌∙◌, ap, sym, cond, List, ℕ, true, false}
use Rattle.std.proofs.lemmas.Result.{IfOk-weaker}
use Rattle.std.specs.List.{after_last, before_last}
use Rattle.avro_schema.specs.declared.node.FullName.{FullName}
use Rattle.avro_schema.specs.Names.{full_name, full_text, joined, is_dot, has_dot, is_full_name}
use Rattle.avro_schema.proofs.TextLemmas.{unsplit, split_last, split_parts}
use Rattle.avro_schema.proofs.NameLemmas.{whole_plain, whole_dotted}
use Rattle.avro_schema.proofs.Lookups.{same_result}
use Rattle.avro_schema.proofs.names.full_name.Goals as goal

with_dot : (ns s front back : List ℕ) → (after_last is_dot s ≡ back) × (before_last is_dot s ≡ front) × (has_dot s ≡ true)
    → ◌≡◌ {A = FullName} (record { namespace = front; name = back }) (full_name ns s)
with_dot ns s front back e = rw (← e.0, ← e.1, e.2)

with_none : (ns s : List ℕ) → (after_last is_dot s ≡ s) × (has_dot s ≡ false)
    → ◌≡◌ {A = FullName} (record { namespace = ns; name = s }) (full_name ns s)
with_none ns s e =
    ap (λ b. record { namespace = cond b (before_last is_dot s) ns; name = s }) (sym e.1)
    ∙ ap (λ t. record { namespace = cond (has_dot s) (before_last is_dot s) ns; name = t }) (sym e.0)

pub returns-in_ok-copy_of-in-Some-clause-name : goal.returns-in_ok-copy_of-in-Some-clause-name
returns-in_ok-copy_of-in-Some-clause-name c =
    let s = c.in-Some.ensures.cases in
    same_result c.of_parts.result _ _ (
    ap (λ l. record { namespace = l; name = c.in-Some.last.now }) c.in_ok-copy_of-in-Some.ensures
    ∙ with_dot c.args.namespace.now c.args.text.now _ _
    (split_last c.args.text.now _ _ s.0 s.1 s.2 s.3 s.4 s.5 s.6 s.7)) c.of_parts.ensures

pub returns-in_ok-copy_of-in-Some-clause-last : goal.returns-in_ok-copy_of-in-Some-clause-last
returns-in_ok-copy_of-in-Some-clause-last c =
    let s = c.in-Some.ensures.cases in
    let parts = split_parts c.args.text.now _ _ s.0 s.1 s.2 s.3 s.4 s.5 s.6 s.7 in
    IfOk-weaker c.of_parts.result _ (λ n. has_dot n.name ≡ false) (λ n is. ap (λ m. has_dot m.name) is ∙ parts.1) c.of_parts.ensures

pub returns-in_ok-copy_of-in-Some-clause-whole : goal.returns-in_ok-copy_of-in-Some-clause-whole
returns-in_ok-copy_of-in-Some-clause-whole c =
    let s = c.in-Some.ensures.cases in
    let parts = split_parts c.args.text.now _ _ s.0 s.1 s.2 s.3 s.4 s.5 s.6 s.7 in
    IfOk-weaker c.of_parts.result _ (λ n.
    is_full_name c.args.text.now ≡ true → full_text c.args.namespace.now c.args.text.now ≡ joined n.namespace n.name)
    (λ n is full.
    whole_dotted c.args.namespace.now c.args.text.now _ _ parts.0 full
    ∙ ap (λ l. joined l c.in-Some.last.now) (sym c.in_ok-copy_of-in-Some.ensures)
    ∙ ap (λ m. joined m.namespace m.name) (sym is))
    c.of_parts.ensures

pub returns-in_ok-clone-in-None-clause-name : goal.returns-in_ok-clone-in-None-clause-name
returns-in_ok-clone-in-None-clause-name c =
    same_result c.of_parts-in-None.result _ _ (
    ap (λ l. record { namespace = l; name = c.args.text.now }) c.in_ok-clone-in-None.ensures.cases
    ∙ with_none c.args.namespace.now c.args.text.now (unsplit c.args.text.now c.in-None.ensures.cases)) c.of_parts-in-None.ensures

pub returns-in_ok-clone-in-None-clause-last : goal.returns-in_ok-clone-in-None-clause-last
returns-in_ok-clone-in-None-clause-last c =
    let u = unsplit c.args.text.now c.in-None.ensures.cases in
    IfOk-weaker c.of_parts-in-None.result _ (λ n. has_dot n.name ≡ false)
    (λ n is. ap (λ m. has_dot m.name) is ∙ u.1) c.of_parts-in-None.ensures

pub returns-in_ok-clone-in-None-clause-whole : goal.returns-in_ok-clone-in-None-clause-whole
returns-in_ok-clone-in-None-clause-whole c =
    let u = unsplit c.args.text.now c.in-None.ensures.cases in
    IfOk-weaker c.of_parts-in-None.result _ (λ n.
    is_full_name c.args.text.now ≡ true → full_text c.args.namespace.now c.args.text.now ≡ joined n.namespace n.name)
    (λ n is full.
    whole_plain c.args.namespace.now c.args.text.now u.1
    ∙ ap (λ l. joined l c.args.text.now) (sym c.in_ok-clone-in-None.ensures.cases)
    ∙ ap (λ m. joined m.namespace m.name) (sym is))
    c.of_parts-in-None.ensures
