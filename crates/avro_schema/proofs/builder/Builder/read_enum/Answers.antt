use Rattle.std.proofs.Common.{codes, option_and_then}
use Rattle.serde_json.specs.Find.{get}
use Rattle.json_tree.specs.View.{view}
use Rattle.avro_schema.specs.Form.{heading_of, strings_in}
use Rattle.avro_schema.specs.Building.{opened, enum_in, RefusesType}
use Rattle.avro_schema.proofs.Refused.{refused_symbols, refused_opening_enum}
use Rattle.avro_schema.proofs.Lookups.{exit_err}
use Rattle.avro_schema.proofs.Answering.{enum_read}
use Rattle.avro_schema.proofs.builder.Builder.read_enum.Goals as goal

pub returns-in_err-index-clause-err : goal.returns-in_err-index-clause-err
returns-in_err-index-clause-err c =
    let d = view c.args.value.now in
    let ns = c.args.namespace.now.text in
    exit_err c.from_residual.result (RefusesType c.args.self.now ns (enum_in d)) c.in_err-index.field-0.0 c.from_residual.ensures.1
    (λ ds met.
    refused_opening_enum ds ns (heading_of d) (option_and_then strings_in (get (codes "symbols") d))
    (get (codes "default") d) (opened c.args.self.now) _ (c.in_err-index.ensures.err ds met))

pub returns-in_err-symbols-clause-err : goal.returns-in_err-symbols-clause-err
returns-in_err-symbols-clause-err c =
    let d = view c.args.value.now in
    let ns = c.args.namespace.now.text in
    exit_err c.from_residual-in_err-symbols.result
    (RefusesType c.args.self.now ns (enum_in d)) c.in_err-symbols.field-0.0 c.from_residual-in_err-symbols.ensures.1
    (λ ds met.
    refused_symbols ds ns (heading_of d) (option_and_then strings_in (get (codes "symbols") d))
    (get (codes "default") d) (opened c.args.self.now) _ c.in_err-symbols.ensures.err)

pub returns-clause-ok : goal.returns-clause-ok
returns-clause-ok c =
    let d = view c.args.value.now in
    enum_read c.args.self.now c.open_type.new.self c.close.new.self c.args.namespace.now.text
    (heading_of d) c.in_ok-index.field-0 (option_and_then strings_in (get (codes "symbols") d))
    (get (codes "default") d) c.in_ok-symbols.field-0 c.from.result c.in_ok-index.ensures.ok c.in_ok-symbols.ensures.ok c.from.ensures
    c.close.ensures.nodes c.close.ensures.names
