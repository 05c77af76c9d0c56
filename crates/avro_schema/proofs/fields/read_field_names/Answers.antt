use Rattle.std.proofs.Common.{◌∙◌, sym, ap, option_map, refl}
use Rattle.std.specs.List.{list_all}
use Rattle.json_tree.specs.View.{view}
use Rattle.avro_schema.specs.declared.error.SchemaError.TheVariants as fault
use Rattle.avro_schema.specs.Names.{is_name}
use Rattle.avro_schema.specs.Form.{field_heading_of}
use Rattle.avro_schema.specs.Building.{field_faults}
use Rattle.avro_schema.specs.Schema.{IsRefusalBy}
use Rattle.avro_schema.proofs.Reading.{no_memory}
use Rattle.avro_schema.proofs.Refused.{refused_no_field_name, refused_field_name, refused_no_field_aliases, refused_field_aliases}
use Rattle.avro_schema.proofs.Lookups.{exit_err}
use Rattle.avro_schema.proofs.fields.read_field_names.Goals as goal

pub returns-in_default-clause-err : goal.returns-in_default-clause-err
returns-in_default-clause-err c = refused_no_field_name (field_heading_of (view c.args.value.now)) c.in_default.ensures

pub returns-then-not-is_name-clause-err : goal.returns-then-not-is_name-clause-err
returns-then-not-is_name-clause-err c =
    refused_field_name (field_heading_of (view c.args.value.now)) c.in-Some.name.now c.in-Some.ensures (sym c.if-not-is_name.ensures)

pub returns-in_err-aliases-clause-err : goal.returns-in_err-aliases-clause-err
returns-in_err-aliases-clause-err c =
    exit_err c.from_residual.result (IsRefusalBy (field_faults (field_heading_of (view c.args.value.now))))
    fault.OutOfMemory c.from_residual.ensures.1 (no_memory _ _ refl)

pub returns-in_default-2-clause-err : goal.returns-in_default-2-clause-err
returns-in_default-2-clause-err c =
    refused_no_field_aliases (field_heading_of (view c.args.value.now))
    (sym c.in_ok-aliases.ensures ∙ ap (option_map (λ v. v.items)) c.in_default-2.is)

pub returns-then-not-are_names-clause-err : goal.returns-then-not-are_names-clause-err
returns-then-not-are_names-clause-err c =
    refused_field_aliases (field_heading_of (view c.args.value.now)) c.in-Some-2.aliases.items
    (sym c.in_ok-aliases.ensures ∙ ap (option_map (λ v. v.items)) c.in-Some-2.is)
    (ap (list_all is_name) (sym c.as_slice.ensures.value) ∙ sym c.if-not-are_names.ensures)

pub returns-in_err-name-clause-err : goal.returns-in_err-name-clause-err
returns-in_err-name-clause-err c =
    exit_err c.from_residual-in_err-name.result (IsRefusalBy (field_faults (field_heading_of (view c.args.value.now))))
    fault.OutOfMemory c.from_residual-in_err-name.ensures.1 (no_memory _ _ refl)

pub returns-in_err-default-clause-err : goal.returns-in_err-default-clause-err
returns-in_err-default-clause-err c =
    exit_err c.from_residual-in_err-default.result (IsRefusalBy (field_faults (field_heading_of (view c.args.value.now))))
    fault.OutOfMemory c.from_residual-in_err-default.ensures.1 (no_memory _ _ refl)
