-- Private: what a part of a lookup gives, or why it gives nothing.
use Rattle.std.specs.Prelude.{◌≡◌, ⊤, ℕ, List, Result, Ok, Err}
use Rattle.reg_modes.specs.reg_refusals.declared.refusal.Refusal.{Refusal}
use Rattle.reg_lookup.specs.Bodies.{answer_with}
use Rattle.reg_lookup.specs.declared.answered.Answer.{Answer}
use Rattle.reg_lookup.specs.declared.error.LookupError.{LookupError}
use Rattle.reg_lookup.specs.declared.error.LookupError.TheVariants.{Refused, OutOfMemory}

-- the refusal is the one that is wanted, or memory was
abbrev pub IsRefusalOf : {X : Type 0} → Result X Refusal → LookupError → Type 0
IsRefusalOf wanted (Refused refusal) = wanted ≡ Err refusal
IsRefusalOf wanted OutOfMemory = ⊤

-- the answer tells what was found
abbrev pub Tells : Result (List ℕ) LookupError → Answer → Type 0
Tells (Ok body) a = a ≡ answer_with (Ok body)
Tells (Err (Refused refusal)) a = a ≡ answer_with (Err refusal)
Tells (Err OutOfMemory) a = ⊥
