-- The modes and their names.
use Rattle.std.specs.Prelude.{ℕ, List, [], ◌∷◌, Option, codes, find, unwrap_or}
use Rattle.std.specs.Str.{str_eq_ignore_ascii_case}
use Rattle.reg_modes.specs.declared.mode.Mode.{Mode}
use Rattle.reg_modes.specs.declared.mode.Mode.TheVariants.{Readwrite, Readonly, Import}

-- the name that answers and written records give
abbrev pub mode_text : Mode → List ℕ
mode_text Readwrite = codes "READWRITE"
mode_text Readonly = codes "READONLY"
mode_text Import = codes "IMPORT"

-- the mode of that name, ASCII case ignored
abbrev pub mode_named : List ℕ → Option Mode
mode_named name = find (λ m. str_eq_ignore_ascii_case name (mode_text m)) (Readwrite ∷ Readonly ∷ Import ∷ [])

-- what the name in a record stands for: one of another name stands as READONLY
abbrev pub standing_mode : List ℕ → Mode
standing_mode name = unwrap_or (mode_named name) Readonly
