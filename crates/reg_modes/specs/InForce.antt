-- The mode in force. Below, rs are the last records, and a scope is a subject, or None for all subjects.
use Rattle.std.specs.Prelude.{Option, None, option_map, unwrap_or}
use Rattle.std.specs.Option.{option_or}
use Rattle.reg_fold.specs.reg_set.Records.{Records}
use Rattle.reg_fold.specs.InForce.{Scope, own_mode_name}
use Rattle.reg_modes.specs.Mode.{standing_mode}
use Rattle.reg_modes.specs.declared.mode.Mode.{Mode}
use Rattle.reg_modes.specs.declared.mode.Mode.TheVariants.{Readwrite}

-- the mode that a scope has of its own
abbrev pub own_mode : Records → Scope → Option Mode
own_mode rs scope = option_map standing_mode (own_mode_name rs scope)

-- the mode in force: the scope's own, else the one for all subjects, else READWRITE
abbrev pub mode : Records → Scope → Mode
mode rs scope = unwrap_or (option_or (own_mode rs scope) (own_mode rs None)) Readwrite
