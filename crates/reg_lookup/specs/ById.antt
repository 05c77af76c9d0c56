-- Queries by a schema's id. Below, es are all entries, and rs the last records.
use Rattle.std.specs.Prelude.{ℕ, List, [], ◌∷◌, Bool, Result, Ok, Err}
use Rattle.std.specs.List.{filter}
use Rattle.std.specs.Option.{ok_or}
use Rattle.reg_modes.specs.reg_entries.Sought.{counts, with_id}
use Rattle.reg_modes.specs.reg_entries.declared.entry.Entry.{Entry}
use Rattle.reg_modes.specs.reg_refusals.declared.refusal.Refusal.{Refusal}
use Rattle.reg_modes.specs.reg_refusals.declared.refusal.Refusal.TheVariants.{SchemaNotFound}
use Rattle.reg_modes.specs.reg_set.Records.{Records}
use Rattle.reg_modes.specs.reg_fold.Standing.{named}
use Rattle.reg_lookup.specs.Bodies.{list_body, place_data, schema_body}
use Rattle.reg_lookup.specs.Found.{found_map}

-- the text of the entry that the id names, soft ones too
abbrev pub schema_by_id : Records → ℕ → Result (List ℕ) Refusal
schema_by_id rs id = found_map (λ e. schema_body e.text) (ok_or (named rs id) SchemaNotFound)

-- of the entries of an id those that count; refused where the id has none at all
abbrev pub places_among : List Entry → Bool → Result (List ℕ) Refusal
places_among [] deleted = Err SchemaNotFound
places_among (e ∷ es) deleted = Ok (list_body place_data (filter (counts deleted) (e ∷ es)))

abbrev pub id_versions : List Entry → ℕ → Bool → Result (List ℕ) Refusal
id_versions es id deleted = places_among (with_id es id) deleted
