-- How far a process is.
use Rattle.std.specs.Prelude.{◌≡◌, true, false}
use Rattle.reg_metrics.specs.declared.stage.Condition.{Condition}

-- nodes listen, and nothing is known that keeps commands from being answered
pub record IsClear (s : Condition) : Type 0 where
  pub listens : s.listens ≡ true
  pub found : s.is_lost ≡ false
  pub taken : s.is_declined ≡ false
  pub room : s.is_full ≡ false
  pub lawful : s.is_unlawful ≡ false
  pub goes_on : s.has_ended ≡ false
  pub reached : s.is_away ≡ false
