-- Queries for levels and modes. Below, rs are the last records.
use Rattle.std.specs.Prelude.{ℕ, List, Bool, true, false, Option, Some, None, Result}
use Rattle.std.specs.Option.{ok_or}
use Rattle.reg_modes.specs.reg_set.Records.{Records}
use Rattle.reg_modes.specs.reg_level_names.Level.{level_text}
use Rattle.reg_modes.specs.reg_level_names.declared.level.Level.{Level}
use Rattle.reg_modes.specs.reg_fold.InForce.{Scope, own_level, level}
use Rattle.reg_modes.specs.reg_refusals.declared.refusal.Refusal.{Refusal}
use Rattle.reg_modes.specs.reg_refusals.declared.refusal.Refusal.TheVariants.{SubjectHasNoLevel, SubjectHasNoMode}
use Rattle.reg_modes.specs.InForce.{own_mode, mode}
use Rattle.reg_modes.specs.Mode.{mode_text}
use Rattle.reg_modes.specs.declared.mode.Mode.{Mode}
use Rattle.reg_lookup.specs.Bodies.{level_body, mode_body}
use Rattle.reg_lookup.specs.Found.{found_map}

-- for all subjects the level in force; for one its own, or the one in force where that is asked for
abbrev pub level_if_any : Records → Scope → Bool → Option Level
level_if_any rs None default_global = Some (level rs None)
level_if_any rs (Some subject) true = Some (level rs (Some subject))
level_if_any rs (Some subject) false = own_level rs (Some subject)

abbrev pub level_found : Records → Scope → Bool → Result (List ℕ) Refusal
level_found rs subject default_global = found_map (λ l. level_body (level_text l))
    (ok_or (level_if_any rs subject default_global) SubjectHasNoLevel)

-- the same for modes
abbrev pub mode_if_any : Records → Scope → Bool → Option Mode
mode_if_any rs None default_global = Some (mode rs None)
mode_if_any rs (Some subject) true = Some (mode rs (Some subject))
mode_if_any rs (Some subject) false = own_mode rs (Some subject)

abbrev pub mode_found : Records → Scope → Bool → Result (List ℕ) Refusal
mode_found rs subject default_global = found_map (λ m. mode_body (mode_text m))
    (ok_or (mode_if_any rs subject default_global) SubjectHasNoMode)
