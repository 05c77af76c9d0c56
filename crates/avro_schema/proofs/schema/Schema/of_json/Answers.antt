use Rattle.std.proofs.Common.{◌≡◌, ◌∙◌, sym, ap, subst, length, nat_le, true, false, List, ℕ, [], map}
use Rattle.json_tree.specs.View.{view}
use Rattle.serde_json.specs.Written.{has_float}
use Rattle.avro_schema.specs.Form.{form}
use Rattle.avro_schema.specs.Required.{required_of}
use Rattle.avro_schema.specs.Schema.{IsRefusalBy, faults}
use Rattle.avro_schema.specs.Building.{ReadsType, RefusesType}
use Rattle.avro_schema.proofs.Lookups.{exit_err}
use Rattle.avro_schema.proofs.WholeLemmas.{is_float, refused_whole, read_whole, le-true}
use Rattle.avro_schema.proofs.ReadsBack.{read_plain}
use Rattle.avro_schema.proofs.schema.Schema.of_json.Goals as goal
use Rattle.avro_schema.specs.declared.limits.TheConstants.{TEXT_LIMIT}

pub returns-then-has_float-clause-err : goal.returns-then-has_float-clause-err
returns-then-has_float-clause-err c = is_float c.args.text.now (view c.args.value.now) c.requires.of_text (sym c.if-has_float.ensures)

pub read_type-requires : goal.read_type-requires
read_type-requires c = record {
  plain = read_plain c.args.text.now (view c.args.value.now) c.requires.of_text (sym c.if-has_float.ensures);
  numbered = c.in_ok-null.ensures.ok.1;
}

pub returns-in_err-read_type-clause-err : goal.returns-in_err-read_type-clause-err
returns-in_err-read_type-clause-err c =
    let d = view c.args.value.now in
    let b = c.numbered.new.self in
    let e = c.in_err-read_type.field-0.0 in
    let null : c.in_ok-null.null.text ≡ [] = c.in_ok-null.ensures.ok.0 ∙ c.empty.ensures in
    exit_err c.from_residual-in_err-read_type.result (IsRefusalBy (faults c.args.text.now)) e c.from_residual-in_err-read_type.ensures.1
    (refused_whole c.args.text.now d b e c.requires.of_text (ap (λ v. v.items) c.numbered.ensures.nodes ∙ c.new-builder.ensures.empty)
    (c.in_ok-null.ensures.met [] c.new-builder.ensures.met)
    (subst (λ (ns : List ℕ). RefusesType b ns (form d) e) null c.in_err-read_type.ensures.err))

pub returns-clause-ok : goal.returns-clause-ok
returns-clause-ok c =
    let d = view c.args.value.now in
    let b = c.numbered.new.self in
    let short : nat_le (length c.args.text.now) TEXT_LIMIT ≡ true = le-true _ _ c.requires.within in
    let whole : has_float d ≡ false = sym c.if-has_float.ensures in
    let null : c.in_ok-null.null.text ≡ [] = c.in_ok-null.ensures.ok.0 ∙ c.empty.ensures in
    read_whole c.args.text.now d b c.read_type.new.self c.in_ok-read_type.field-0 c.in_ok-normal.normal short c.requires.of_text whole
    (ap (λ v. v.items) c.numbered.ensures.nodes ∙ c.new-builder.ensures.empty) (c.in_ok-null.ensures.met [] c.new-builder.ensures.met)
    (subst (λ (ns : List ℕ). ReadsType b c.read_type.new.self ns (form d) c.in_ok-read_type.field-0) null c.in_ok-read_type.ensures.ok)
    c.in_ok-normal.ensures.text

pub invariant_of-result : goal.invariant_of-result
invariant_of-result c =
    let d = view c.args.value.now in
    let b = c.numbered.new.self in
    let short : nat_le (length c.args.text.now) TEXT_LIMIT ≡ true = le-true _ _ c.requires.within in
    let whole : has_float d ≡ false = sym c.if-has_float.ensures in
    let null : c.in_ok-null.null.text ≡ [] = c.in_ok-null.ensures.ok.0 ∙ c.empty.ensures in (
      c.in_ok-normal.ensures.same
          ∙ read_whole c.args.text.now d b c.read_type.new.self c.in_ok-read_type.field-0 c.in_ok-normal.normal short
          c.requires.of_text whole (ap (λ v. v.items) c.numbered.ensures.nodes ∙ c.new-builder.ensures.empty)
          (c.in_ok-null.ensures.met [] c.new-builder.ensures.met)
          (subst (λ (ns : List ℕ).
          ReadsType b c.read_type.new.self ns (form d) c.in_ok-read_type.field-0) null c.in_ok-read_type.ensures.ok)
          c.in_ok-normal.ensures.text,
      c.in_ok-required.ensures ∙ ap (map required_of) c.as_slice.ensures.value,
    )
