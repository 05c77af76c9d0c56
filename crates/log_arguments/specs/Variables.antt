-- What the variables of the environment set.
use Rattle.std.specs.Prelude.{◌≡◌, Option, String, option_map, string_bytes}
use Rattle.std.specs.Borrow.{Bor}
use Rattle.clap.specs.Words.{Text}
use Rattle.log_arguments.specs.declared.settings.Environment.{Environment}
use Rattle.log_arguments.specs.declared.settings.Settings.{Settings}

-- what is set is the value of a variable, if it has one
abbrev pub IsSetBy : {A : Type 0} → Option (String A) → Option (Bor Text) → Type 0
IsSetBy variable set = option_map (λ text. text.now) set ≡ option_map string_bytes variable

-- each option is set by its own variable
pub record AreSetBy (environment : Environment) (set : Settings) : Type 0 where
  pub listen : IsSetBy environment.listen set.listen
  pub nodes : IsSetBy environment.nodes set.nodes
  pub workers : IsSetBy environment.workers set.workers
  pub metrics : IsSetBy environment.metrics set.metrics
  pub quiet : IsSetBy environment.quiet set.quiet
  pub new : IsSetBy environment.new set.new
  pub check_every : IsSetBy environment.check_every set.check_every
