-- How long a connection may wait for what it waits for.
use Rattle.std.specs.Prelude.{ℕ, Bool, true, false, ◌-◌, nat_le}
use Rattle.reg_connection.specs.declared.limits.Limits.{Limits}
use Rattle.reg_connection.specs.declared.waiting.Waits.{Waits}
use Rattle.reg_connection.specs.declared.waiting.Waits.TheVariants as waits

-- by whether a request has begun
abbrev pub patience : Limits → Waits → Bool → ℕ
patience limits waits.Request false = limits.idle
patience limits waits.Request true = limits.request
patience limits waits.Client _ = limits.answer
patience limits waits.End _ = limits.linger

-- it has waited as long as it may, or longer
abbrev pub is_late : Limits → Waits → Bool → ℕ → ℕ → Bool
is_late limits waits begun since now = nat_le (patience limits waits begun) (now - since)
