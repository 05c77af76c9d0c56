use Rattle.std.proofs.Common.{◌≡◌, ◌∙◌, sym, subst, None, List, ℕ, arith}
use Rattle.avro_schema.specs.Form.{Form, plain, by_name, form_of_name}
use Rattle.avro_schema.specs.Places.{definition_used}
use Rattle.avro_schema.specs.declared.error.SchemaError.TheVariants as fault
use Rattle.avro_schema.specs.Schema.{IsRefusalBy}
use Rattle.avro_schema.specs.Building.{opened, type_faults, RefusesType, ReadsType}
use Rattle.avro_schema.proofs.KindLemmas.{form_plain, form_use}
use Rattle.avro_schema.proofs.NameLemmas.{no_node}
use Rattle.avro_schema.proofs.Lookups.{exit_err}
use Rattle.avro_schema.proofs.Answering.{use_read}
use Rattle.avro_schema.proofs.Refused.{refused_open, refused_use}
use Rattle.avro_schema.proofs.builder.Builder.read_name.Goals as goal

pub returns-in_err-index-clause-err : goal.returns-in_err-index-clause-err
returns-in_err-index-clause-err c =
    let e = c.in_err-index.field-0.0 in
    let r = c.args.self.now in
    let ns = c.args.namespace.now.text in
    exit_err c.from_residual.result (RefusesType r ns (form_of_name c.args.name.now)) e c.from_residual.ensures.1 (λ ds met.
    subst (λ (f : Form). IsRefusalBy (type_faults ds ns f (opened r)) e)
    (sym (form_plain c.args.name.now c.in-Some.primitive c.in-Some.ensures))
    (refused_open ds ns (plain c.in-Some.primitive) (opened r) e (omega arith) c.in_err-index.ensures.err))

pub returns-in_ok-copy_of-in-None-clause-err : goal.returns-in_ok-copy_of-in-None-clause-err
returns-in_ok-copy_of-in-None-clause-err c = λ ds met.
    let s = c.args.name.now in
    let r = c.args.self.now in
    let ns = c.args.namespace.now.text in
    let none : definition_used ds (opened r) ns s ≡ None = no_node _ (sym (c.find.ensures ds met) ∙ c.in-None.is) in
    let refused : IsRefusalBy (type_faults ds ns (by_name s) (opened r)) (fault.Unknown s) = refused_use ds ns s (opened r) none in
    let formed : IsRefusalBy (type_faults ds ns (form_of_name s) (opened r)) (fault.Unknown s) = subst
    (λ (f : Form). IsRefusalBy (type_faults ds ns f (opened r)) (fault.Unknown s)) (sym (form_use s c.in_default.ensures)) refused in
    subst (λ (t : List ℕ). IsRefusalBy (type_faults ds ns (form_of_name s) (opened r)) (fault.Unknown t))
    (sym c.in_ok-copy_of-in-None.ensures) formed

pub returns-in-Some-find-clause-ok : goal.returns-in-Some-find-clause-ok
returns-in-Some-find-clause-ok c =
    let a = c.args.self.now in
    let ns = c.args.namespace.now.text in
    let s = c.args.name.now in
    subst (λ (f : Form). ReadsType a a ns f (record { index = c.in-Some-find.index })) (sym (form_use s c.in_default.ensures))
    (use_read a ns s c.in-Some-find.index (λ ds met. sym c.in-Some-find.is ∙ c.find.ensures ds met))
