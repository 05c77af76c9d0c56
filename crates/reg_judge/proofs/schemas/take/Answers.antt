use Rattle.std.proofs.Common.{◌≡◌, true, Some, sym, ◌∙◌, subst, ap, is_some}
use Rattle.std.specs.Prelude.{bytes_eq, string_bytes}
use Rattle.std.proofs.lemmas.Slice.Eq.{bytes_eq-Decides}
use Rattle.avro_resolve.specs.avro_schema.Schema.{schema_of}
use Rattle.reg_judge.specs.Judge.{without_text}
use Rattle.reg_judge.specs.Kept.{AreSchemas, IsSchemaOf, texts_in}
use Rattle.reg_judge.proofs.Keeping.{found, without}
use Rattle.reg_judge.proofs.TextsOut.{removed}
use Rattle.reg_judge.proofs.schemas.take.Goals as goal

-- what was taken out is right, and its text is the one that was asked for
taken : (c : goal.After-into_schema)
    → IsSchemaOf (c.in-Some.text, c.in-Some.stored) × (bytes_eq c.args.text.now (string_bytes c.in-Some.text) ≡ true)
taken c =
    found IsSchemaOf _ c.args.kept.now.entries (c.in-Some.text, c.in-Some.stored) c.requires (sym c.pop_entry.ensures.value ∙ c.in-Some.is)

same : (c : goal.After-into_schema) → c.args.text.now ≡ string_bytes c.in-Some.text
same c = (bytes_eq-Decides c.args.text.now (string_bytes c.in-Some.text)).0 (taken c).1

pub invariant_of-result : goal.invariant_of-result
unfolding IsSchemaOf
invariant_of-result c = (taken c).0 ∙ sym (ap Some c.into_schema.ensures)

pub returns-in-Some-clause-text : goal.returns-in-Some-clause-text
returns-in-Some-clause-text c = sym (same c)

pub returns-in-Some-clause-read : goal.returns-in-Some-clause-read
unfolding IsSchemaOf
returns-in-Some-clause-read c = sym (ap is_some (ap schema_of (same c) ∙ (taken c).0))

pub returns-in-Some-clause-left : goal.returns-in-Some-clause-left
returns-in-Some-clause-left c =
    subst (λ cache. AreSchemas cache.entries) (sym c.pop_entry.ensures.entries) (without IsSchemaOf _ c.args.kept.now.entries c.requires)

pub returns-in_err-schema-clause-left : goal.returns-in_err-schema-clause-left
returns-in_err-schema-clause-left c =
    subst (λ cache. AreSchemas cache.entries) (sym c.pop_entry.ensures.entries) (without IsSchemaOf _ c.args.kept.now.entries c.requires)

pub returns-in_err-from_str-in-Some-2-clause-left : goal.returns-in_err-from_str-in-Some-2-clause-left
returns-in_err-from_str-in-Some-2-clause-left c =
    subst (λ cache. AreSchemas cache.entries) (sym c.pop_entry.ensures.entries) (without IsSchemaOf _ c.args.kept.now.entries c.requires)

pub returns-in_ok-from_str-in-Some-2-clause-left : goal.returns-in_ok-from_str-in-Some-2-clause-left
returns-in_ok-from_str-in-Some-2-clause-left c =
    subst (λ cache. AreSchemas cache.entries) (sym c.pop_entry.ensures.entries) (without IsSchemaOf _ c.args.kept.now.entries c.requires)

pub returns-in-None-clause-left : goal.returns-in-None-clause-left
returns-in-None-clause-left c =
    subst (λ cache. AreSchemas cache.entries) (sym c.pop_entry.ensures.entries) (without IsSchemaOf _ c.args.kept.now.entries c.requires)

pub returns-in-Some-clause-out : goal.returns-in-Some-clause-out
returns-in-Some-clause-out c =
    subst (λ cache. texts_in cache.entries ≡ without_text c.args.text.now (texts_in c.args.kept.now.entries))
    (sym c.pop_entry.ensures.entries) (removed _ c.args.text.now c.args.kept.now.entries)

pub returns-in_err-schema-clause-out : goal.returns-in_err-schema-clause-out
returns-in_err-schema-clause-out c =
    subst (λ cache. texts_in cache.entries ≡ without_text c.args.text.now (texts_in c.args.kept.now.entries))
    (sym c.pop_entry.ensures.entries) (removed _ c.args.text.now c.args.kept.now.entries)

pub returns-in_err-from_str-in-Some-2-clause-out : goal.returns-in_err-from_str-in-Some-2-clause-out
returns-in_err-from_str-in-Some-2-clause-out c =
    subst (λ cache. texts_in cache.entries ≡ without_text c.args.text.now (texts_in c.args.kept.now.entries))
    (sym c.pop_entry.ensures.entries) (removed _ c.args.text.now c.args.kept.now.entries)

pub returns-in_ok-from_str-in-Some-2-clause-out : goal.returns-in_ok-from_str-in-Some-2-clause-out
returns-in_ok-from_str-in-Some-2-clause-out c =
    subst (λ cache. texts_in cache.entries ≡ without_text c.args.text.now (texts_in c.args.kept.now.entries))
    (sym c.pop_entry.ensures.entries) (removed _ c.args.text.now c.args.kept.now.entries)

pub returns-in-None-clause-out : goal.returns-in-None-clause-out
returns-in-None-clause-out c =
    subst (λ cache. texts_in cache.entries ≡ without_text c.args.text.now (texts_in c.args.kept.now.entries))
    (sym c.pop_entry.ensures.entries) (removed _ c.args.text.now c.args.kept.now.entries)
