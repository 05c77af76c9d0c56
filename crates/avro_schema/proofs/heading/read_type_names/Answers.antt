use Rattle.std.proofs.Common.{◌&&◌, ◌∙◌, sym, ap, option_map, refl}
use Rattle.std.specs.List.{list_all}
use Rattle.json_tree.specs.View.{view}
use Rattle.avro_schema.specs.declared.error.SchemaError.TheVariants as fault
use Rattle.avro_schema.specs.Names.{is_type_name, is_full_name}
use Rattle.avro_schema.specs.Form.{heading_of}
use Rattle.avro_schema.specs.Faults.{written_faults}
use Rattle.avro_schema.specs.Schema.{IsRefusalBy}
use Rattle.avro_schema.proofs.Reading.{no_memory}
use Rattle.avro_schema.proofs.Refused.{refused_nameless, refused_no_aliases, refused_names}
use Rattle.avro_schema.proofs.Lookups.{exit_err}
use Rattle.avro_schema.proofs.heading.read_type_names.Goals as goal

pub returns-in_default-clause-err : goal.returns-in_default-clause-err
returns-in_default-clause-err c = refused_nameless (heading_of (view c.args.value.now)) c.in_default.ensures

pub returns-in_err-aliases-clause-err : goal.returns-in_err-aliases-clause-err
returns-in_err-aliases-clause-err c =
    exit_err c.from_residual.result
    (IsRefusalBy (written_faults (heading_of (view c.args.value.now)))) fault.OutOfMemory c.from_residual.ensures.1 (no_memory _ _ refl)

pub returns-in_default-2-clause-err : goal.returns-in_default-2-clause-err
returns-in_default-2-clause-err c =
    refused_no_aliases (heading_of (view c.args.value.now)) (sym c.in_ok-aliases.ensures ∙ ap (option_map (λ v. v.items)) c.in_default-2.is)

pub returns-then-not-may_name-clause-err : goal.returns-then-not-may_name-clause-err
returns-then-not-may_name-clause-err c =
    refused_names (heading_of (view c.args.value.now)) c.in-Some.name.now c.in-Some-2.aliases.items c.in-Some.ensures
    (sym c.in_ok-aliases.ensures ∙ ap (option_map (λ v. v.items)) c.in-Some-2.is)
    (ap (λ l. is_type_name c.in-Some.name.now && list_all is_full_name l) (sym c.as_slice.ensures.value) ∙ sym c.if-not-may_name.ensures)

pub returns-in_err-namespace-clause-err : goal.returns-in_err-namespace-clause-err
returns-in_err-namespace-clause-err c =
    exit_err c.from_residual-in_err-namespace.result (IsRefusalBy (written_faults (heading_of (view c.args.value.now))))
    fault.OutOfMemory c.from_residual-in_err-namespace.ensures.1 (no_memory _ _ refl)

pub returns-in_err-name-clause-err : goal.returns-in_err-name-clause-err
returns-in_err-name-clause-err c =
    exit_err c.from_residual-in_err-name.result (IsRefusalBy (written_faults (heading_of (view c.args.value.now))))
    fault.OutOfMemory c.from_residual-in_err-name.ensures.1 (no_memory _ _ refl)

pub returns-in_err-aliases-2-clause-err : goal.returns-in_err-aliases-2-clause-err
returns-in_err-aliases-2-clause-err c =
    exit_err c.from_residual-in_err-aliases-2.result (IsRefusalBy (written_faults (heading_of (view c.args.value.now))))
    fault.OutOfMemory c.from_residual-in_err-aliases-2.ensures.1 (no_memory _ _ refl)
