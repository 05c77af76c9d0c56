-- The level and the mode in force, where two sets of last records give the same.
use Rattle.std.proofs.Common.{◌≡◌, None, unwrap_or}
use Rattle.std.specs.Prelude.{option_map}
use Rattle.std.specs.Option.{option_or}
use Rattle.reg_leader.specs.reg_level_names.declared.level.Level.TheVariants.{Backward}
use Rattle.reg_leader.specs.reg_set.Records.{Records}
use Rattle.reg_leader.specs.reg_fold.InForce.{Scope, level}
use Rattle.reg_leader.specs.reg_modes.InForce.{mode, own_mode}
use Rattle.reg_leader.specs.reg_modes.Mode.{standing_mode}
use Rattle.reg_leader.specs.reg_modes.declared.mode.Mode.TheVariants.{Readwrite}
use Rattle.reg_leader.specs.reg_fold.GiveAlike.{GiveAlike}

module _ (rs ss : Records) (alike : GiveAlike rs ss) where
  open alike use {levels_alike, modes_alike}

  pub same_level : (scope : Scope) → level rs scope ≡ level ss scope
  same_level scope = λ i. unwrap_or (option_or (levels_alike scope i) (levels_alike None i)) Backward

  pub same_own_mode : (scope : Scope) → own_mode rs scope ≡ own_mode ss scope
  same_own_mode scope = λ i. option_map standing_mode (modes_alike scope i)

  pub same_mode : (scope : Scope) → mode rs scope ≡ mode ss scope
  same_mode scope = λ i. unwrap_or (option_or (same_own_mode scope i) (same_own_mode None i)) Readwrite
