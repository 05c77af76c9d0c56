use Rattle.std.proofs.Common.{◌≡◌, ◌++◌, ◌+◌, ap, subst, length, is_none, List, ℕ}
use Rattle.json_tree.specs.View.{view}
use Rattle.avro_schema.specs.declared.error.SchemaError.TheVariants as fault
use Rattle.avro_schema.specs.Names.{joined}
use Rattle.avro_schema.specs.Form.{heading_of}
use Rattle.avro_schema.specs.Places.{Definition, defined}
use Rattle.avro_schema.specs.Faults.{unless}
use Rattle.avro_schema.specs.Schema.{IsRefusalBy}
use Rattle.avro_schema.specs.Building.{HasMet, opened, opening_faults, too_many}
use Rattle.avro_schema.proofs.Refused.{refused_written, refused_defined}
use Rattle.avro_schema.proofs.Lookups.{exit_err}
use Rattle.avro_schema.proofs.Answering.{opens_type}
use Rattle.avro_schema.proofs.builder.Builder.open_type.Goals as goal

pub returns-in_err-name-clause-err : goal.returns-in_err-name-clause-err
returns-in_err-name-clause-err c =
    let h = heading_of (view c.args.value.now) in
    exit_err c.from_residual.result (λ e. (ds : List Definition) → HasMet c.args.self.now ds
    → IsRefusalBy (opening_faults ds c.args.namespace.now.text h
    (opened c.args.self.now)) e) c.in_err-name.field-0.0 c.from_residual.ensures.1
    (λ ds met. refused_written ds c.args.namespace.now.text h (opened c.args.self.now) _ c.in_err-name.ensures.err)

pub returns-in_err-index-clause-err : goal.returns-in_err-index-clause-err
returns-in_err-index-clause-err c =
    let h = heading_of (view c.args.value.now) in
    let n = opened c.args.self.now in
    let r = c.in_ok-name.field-0 in
    let e = c.in_err-index.field-0.0 in
    let same : opened c.numbered.new.self ≡ n = ap (λ v. length v.items) c.numbered.ensures.nodes in
    exit_err c.from_residual-in_err-index.result (λ e. (ds : List Definition) → HasMet c.args.self.now ds
    → IsRefusalBy (opening_faults ds c.args.namespace.now.text h n) e) e c.from_residual-in_err-index.ensures.1
    (λ ds met.
    let given = c.in_err-index.ensures.err ds (c.in_ok-namespace.ensures.met ds met) in
    let at : IsRefusalBy (
    unless (is_none (defined ds n (joined c.in_ok-namespace.namespace.text c.as_str.result.now))) fault.Redefined ++ too_many (n + 1)) e =
    subst (λ k.
    IsRefusalBy (
    unless (is_none (defined ds k (joined c.in_ok-namespace.namespace.text c.as_str.result.now))) fault.Redefined
    ++ too_many (k + 1)) e) same given in
    refused_defined ds c.args.namespace.now.text h r n e c.in_ok-name.ensures.ok
    (subst (λ (t : List ℕ).
    IsRefusalBy (unless (is_none (defined ds n (joined r.name.namespace t))) fault.Redefined ++ too_many (n + 1)) e) c.as_str.ensures
    (subst (λ (t : List ℕ).
    IsRefusalBy (unless (is_none (defined ds n (joined t c.as_str.result.now))) fault.Redefined ++ too_many (n + 1))
    e) c.in_ok-namespace.ensures.ok.0 at)))

pub returns-clause-ok : goal.returns-clause-ok
returns-clause-ok c =
    opens_type c.args.self.now c.numbered.new.self c.open_named.new.self c.args.namespace.now.text (heading_of (view c.args.value.now))
    c.in_ok-name.field-0 c.in_ok-namespace.namespace c.as_str.result.now _ c.in_ok-index.index c.numbered.ensures.nodes
    c.in_ok-namespace.ensures.kept c.in_ok-namespace.ensures.met c.in_ok-name.ensures.ok
    c.in_ok-namespace.ensures.ok.0 c.as_str.ensures c.in_ok-namespace.ensures.ok.1 c.in_ok-index.ensures.ok.0
    c.in_ok-index.ensures.ok.1 c.in_ok-index.ensures.kept c.in_ok-index.ensures.met
