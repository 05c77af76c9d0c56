-- What is found among the entries es, or why nothing is.
use Rattle.std.specs.Prelude.{ℕ, List, [], ◌∷◌, Bool, Result, Ok, Err}
use Rattle.std.specs.Option.{ok_or}
use Rattle.reg_modes.specs.reg_entries.Sought.{counting}
use Rattle.reg_modes.specs.reg_entries.declared.entry.Entry.{Entry}
use Rattle.reg_modes.specs.reg_refusals.declared.refusal.Refusal.{Refusal}
use Rattle.reg_modes.specs.reg_refusals.declared.refusal.Refusal.TheVariants.{SubjectNotFound, VersionNotFound}
use Rattle.reg_modes.specs.reg_fold.Standing.{version_in}
use Rattle.reg_modes.specs.reg_fold.declared.version_ref.VersionRef.{VersionRef}

-- goes on with what was found
abbrev pub and_then : {X Y : Type 0} → (X → Result Y Refusal) → Result X Refusal → Result Y Refusal
and_then f (Ok x) = f x
and_then f (Err refusal) = Err refusal

abbrev pub found_map : {X Y : Type 0} → (X → Y) → Result X Refusal → Result Y Refusal
found_map f (Ok x) = Ok (f x)
found_map f (Err refusal) = Err refusal

abbrev pub unless_none : List Entry → Result (List Entry) Refusal
unless_none [] = Err SubjectNotFound
unless_none (e ∷ es) = Ok (e ∷ es)

-- the entries of a subject that count, by version; refused where there is none
abbrev pub counted : List Entry → List ℕ → Bool → Result (List Entry) Refusal
counted es subject deleted = unless_none (counting es subject deleted)

-- the entry of a subject that is meant; refused where none of the subject counts, and where that one doesn't
abbrev pub version_found : List Entry → List ℕ → VersionRef → Bool → Result Entry Refusal
version_found es subject which deleted =
    and_then (λ found. ok_or (version_in es subject which deleted) VersionNotFound) (counted es subject deleted)
