-- Queries by subject. Below, es are all entries, by subject, then by version.
use Rattle.std.specs.Prelude.{ℕ, List, Bool, Result}
use Rattle.serde_json.specs.Data.{string}
use Rattle.reg_modes.specs.reg_entries.Sought as sought
use Rattle.reg_modes.specs.reg_entries.declared.entry.Entry.{Entry}
use Rattle.reg_modes.specs.reg_refusals.declared.refusal.Refusal.{Refusal}
use Rattle.reg_modes.specs.reg_fold.declared.version_ref.VersionRef.{VersionRef}
use Rattle.reg_lookup.specs.Bodies.{list_body, number_data, entry_body}
use Rattle.reg_lookup.specs.Found.{counted, version_found, found_map}

-- the names of the subjects with an entry that counts
abbrev pub subjects : List Entry → Bool → List ℕ
subjects es deleted = list_body string (sought.subjects es deleted)

-- the versions of the subject that count
abbrev pub versions : List Entry → List ℕ → Bool → Result (List ℕ) Refusal
versions es subject deleted = found_map (list_body (λ e. number_data e.version)) (counted es subject deleted)

abbrev pub version : List Entry → List ℕ → VersionRef → Bool → Result (List ℕ) Refusal
version es subject which deleted = found_map entry_body (version_found es subject which deleted)

-- the version's text itself
abbrev pub version_schema : List Entry → List ℕ → VersionRef → Bool → Result (List ℕ) Refusal
version_schema es subject which deleted = found_map (λ e. e.text) (version_found es subject which deleted)
