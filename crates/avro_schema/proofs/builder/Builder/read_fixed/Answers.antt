use Rattle.std.proofs.Common.{codes}
use Rattle.json_tree.specs.View.{view}
use Rattle.avro_schema.specs.Form.{heading_of}
use Rattle.avro_schema.specs.Building.{opened, fixed_in, number_at, RefusesType}
use Rattle.avro_schema.proofs.Refused.{refused_size, refused_opening_fixed}
use Rattle.avro_schema.proofs.Lookups.{exit_err}
use Rattle.avro_schema.proofs.Answering.{fixed_read}
use Rattle.avro_schema.proofs.builder.Builder.read_fixed.Goals as goal

pub returns-in_err-index-clause-err : goal.returns-in_err-index-clause-err
returns-in_err-index-clause-err c =
    let d = view c.args.value.now in
    let ns = c.args.namespace.now.text in
    exit_err c.from_residual.result (RefusesType c.args.self.now ns (fixed_in d)) c.in_err-index.field-0.0 c.from_residual.ensures.1
    (λ ds met.
    refused_opening_fixed ds ns (heading_of d) (number_at (codes "size") d)
    (opened c.args.self.now) _ (c.in_err-index.ensures.err ds met))

pub returns-in_err-size-clause-err : goal.returns-in_err-size-clause-err
returns-in_err-size-clause-err c =
    let d = view c.args.value.now in
    let ns = c.args.namespace.now.text in
    exit_err c.from_residual-in_err-size.result
    (RefusesType c.args.self.now ns (fixed_in d)) c.in_err-size.field-0.0 c.from_residual-in_err-size.ensures.1
    (λ ds met. refused_size ds ns (heading_of d) (number_at (codes "size") d) (opened c.args.self.now) _ c.in_err-size.ensures.err)

pub returns-clause-ok : goal.returns-clause-ok
returns-clause-ok c =
    let d = view c.args.value.now in
    fixed_read c.args.self.now c.open_type.new.self c.close.new.self c.args.namespace.now.text (heading_of d) c.in_ok-index.field-0
    (number_at (codes "size") d) c.in_ok-size.size c.from.result c.in_ok-index.ensures.ok
    c.in_ok-size.ensures.ok c.from.ensures c.close.ensures.nodes c.close.ensures.names
