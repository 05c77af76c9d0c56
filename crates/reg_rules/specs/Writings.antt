-- What commands write.
use Rattle.std.specs.Prelude.{ℕ, suc, List, [], ◌∷◌, true, false, Some, None, option_and_then}
use Rattle.reg_modes.specs.reg_level_names.Level.{level_text}
use Rattle.reg_modes.specs.reg_level_names.declared.level.Level.{Level}
use Rattle.reg_modes.specs.Mode.{mode_text}
use Rattle.reg_modes.specs.declared.mode.Mode.{Mode}
use Rattle.reg_modes.specs.reg_records.WrittenValue.{written_value}
use Rattle.reg_modes.specs.reg_records.declared.key.Key.TheVariants as keys
use Rattle.reg_modes.specs.reg_records.declared.record.Record.{Record}
use Rattle.reg_modes.specs.reg_records.declared.value.Value.TheVariants as values
use Rattle.reg_modes.specs.reg_entries.declared.entry.Entry.{Entry}
use Rattle.reg_modes.specs.reg_fold.InForce.{Scope}
pub use Rattle.reg_rules.specs.declared.writing.Writing.{Writing}

abbrev pub version_of : List ℕ → ℕ → ℕ → List ℕ → Writing
version_of subject version id text = record {
  key = keys.Schema subject version;
  value = Some
      (values.Schema subject version id text false);
}

-- an entry's record again, as a deleted one, with the text that it holds
abbrev pub deleted_again : Entry → Writing
deleted_again e = record { key = keys.Schema e.subject e.version; value = Some (values.Schema e.subject e.version e.id e.text true) }

abbrev pub removed : Entry → Writing
removed e = record { key = keys.Schema e.subject e.version; value = None }

abbrev pub deleted_up_to : List ℕ → ℕ → Writing
deleted_up_to subject version = record { key = keys.DeleteSubject subject; value = Some (values.DeleteSubject subject version) }

abbrev pub level_set : Scope → Level → Writing
level_set scope level = record { key = keys.Config scope; value = Some (values.Config (level_text level)) }

abbrev pub level_cleared : List ℕ → Writing
level_cleared subject = record { key = keys.Config (Some subject); value = None }

abbrev pub mode_set : Scope → Mode → Writing
mode_set scope mode = record { key = keys.Mode scope; value = Some (values.Mode (mode_text mode)) }

abbrev pub mode_cleared : List ℕ → Writing
mode_cleared subject = record { key = keys.Mode (Some subject); value = None }

-- ids were given away up to this one
abbrev pub id_marked : ℕ → Writing
id_marked id = record { key = keys.IdMark; value = Some (values.IdMark id) }

abbrev pub no_operation : Writing
no_operation = record { key = keys.Noop; value = None }

-- its record, at that offset
abbrev pub written_at : ℕ → Writing → Record
written_at n w = record { offset = n; key = w.key; value = option_and_then written_value w.value }

-- records at the offsets n, n + 1 and so on
abbrev pub numbered : ℕ → List Writing → List Record
numbered n [] = []
numbered n (w ∷ ws) = written_at n w ∷ numbered (suc n) ws
