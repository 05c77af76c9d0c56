use Rattle.std.proofs.Common.{◌≡◌, ◌∙◌, Option, Some, IfOk, ap, sym, subst}
use Rattle.serde_json.specs.View.{view}
use Rattle.reg_values.specs.declared.decoding.Decoded.{Decoded}
use Rattle.reg_values.proofs.WithNormal.{schema_value-marked, schema_value-unmarked}
use Rattle.reg_values.proofs.decoding.decode_schema.Goals as goal

pub returns-in_default-deleted_in : goal.returns-in_default-deleted_in
returns-in_default-deleted_in c =
    schema_value-unmarked c.args.subject.now c.args.version (view c.args.json.now) c.in-Some.id c.in-Some-text_at.schema.now
    (sym c.if-not-is_about_version.ensures) (sym c.if-not-is_plain_avro.ensures)
    (sym c.in-Some.ensures) (sym c.in-Some-text_at.ensures) (sym c.in_default-deleted_in.ensures)

pub returns : goal.returns
returns c =
    let marked = schema_value-marked c.args.subject.now c.args.version (view c.args.json.now) c.in-Some.id c.in_ok-text.text
    (sym c.if-not-is_about_version.ensures) (sym c.if-not-is_plain_avro.ensures)
    (sym c.in-Some.ensures) (sym c.in-Some-text_at.ensures ∙ ap Some (sym c.in_ok-text.ensures))
    c.in-Some-deleted_in.deleted (sym c.in-Some-deleted_in.ensures) in
    subst (λ (o : Option Decoded). IfOk c.decode_version.result (λ found. found ≡ o)) (sym marked) c.decode_version.ensures
