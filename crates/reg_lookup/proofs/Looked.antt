-- The query by a schema, step by step.
use Rattle.std.proofs.Common.{◌≡◌, ℕ, Bool, false, List, [], ◌∷◌, length, Option, Some, None, Ok, Err, sym, ap, ◌∙◌}
use Rattle.std.specs.List.{filter}
use Rattle.std.specs.Option.{ok_or}
use Rattle.std.specs.Prelude.{◌==◌}
use Rattle.reg_modes.specs.avro_schema.Schema.{Meaning, schema_of}
use Rattle.reg_modes.specs.reg_entries.Sought.{counting, has_schema, newest}
use Rattle.reg_modes.specs.reg_entries.declared.entry.Entry.{Entry}
use Rattle.reg_modes.specs.reg_refusals.declared.refusal.Refusal.TheVariants.{SchemaNotFound, InvalidSchema}
use Rattle.reg_lookup.specs.Bodies.{entry_body}
use Rattle.reg_lookup.specs.BySchema.{latest_with, lookup}
use Rattle.reg_lookup.specs.Found.{and_then, found_map, unless_none}

-- of some entries the greatest of a normal text
abbrev pub greatest : List ℕ → List Entry → Option Entry
greatest normal found = newest (filter (has_schema normal) found)

module _ (es : List Entry) (subject text : List ℕ) (deleted : Bool) (m : Meaning)
    (normal : List ℕ) (read : schema_of text ≡ Some m) (same : normal ≡ m.normal_text) where
  looked : (found : List Entry) → counting es subject deleted ≡ found
      → lookup es subject text deleted ≡ found_map entry_body (and_then (latest_with normal) (unless_none found))
  looked found is =
      ap (λ s.
      and_then (λ schema. found_map entry_body (and_then (latest_with schema.normal_text) (unless_none (counting es subject deleted))))
      (ok_or s InvalidSchema)) read
      ∙ ap (λ n. found_map entry_body (and_then (latest_with n) (unless_none (counting es subject deleted)))) (sym same)
      ∙ ap (λ fs. found_map entry_body (and_then (latest_with normal) (unless_none fs))) is

  pub looked_found : (found : List Entry) (e : Entry) → counting es subject deleted ≡ found
      → Some e ≡ greatest normal found → lookup es subject text deleted ≡ Ok (entry_body e)
  looked_found [] e is at = cc
  looked_found (f ∷ fs) e is at = looked (f ∷ fs) is ∙ ap (λ o. found_map entry_body (ok_or o SchemaNotFound)) (sym at)

  pub looked_none : (found : List Entry) → counting es subject deleted ≡ found → (n : ℕ) → length found ≡ n
      → (n == 0) ≡ false → None ≡ greatest normal found → lookup es subject text deleted ≡ Err SchemaNotFound
  looked_none [] is n long some at = cc (ap (λ k. k == 0) long)
  looked_none (f ∷ fs) is n long some at = looked (f ∷ fs) is ∙ ap (λ o. found_map entry_body (ok_or o SchemaNotFound)) (sym at)
