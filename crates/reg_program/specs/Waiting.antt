-- Private: a text that is put behind what waits to be written.
use Rattle.std.specs.Prelude.{◌≡◌, ℕ, List, ◌++◌, Option, Result, MatchResult}
use Rattle.reg_records.specs.declared.device.Device.{Device}
use Rattle.reg_responses.specs.Writing.{HasFront, HasWritten}

-- a front of what waited and of the text was written, and the rest of both waits
pub record IsPut {W : Type 0} (contents : W → Option (List ℕ)) (before after : Device W) (waiting waiting' text : List ℕ) : Type 0 where
  pub front : List ℕ
  pub parts : waiting ++ text ≡ front ++ waiting'
  pub written : HasWritten contents before after front

-- the text was put so, or the writer was lost, and has a front of what waited and of the text
abbrev pub Puts : {W A E : Type 0} → (W → Option (List ℕ)) → Device W → Device W → List ℕ → List ℕ → List ℕ → Result A E → Type 0
Puts contents before after waiting waiting' text result = MatchResult result
    (λ _. IsPut contents before after waiting waiting' text) (λ _. HasFront contents before after (waiting ++ text))
