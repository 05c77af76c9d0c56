-- Private: what the functions behind a decision come to, a part of a command's course each. Any of them may be refused memory.
use Rattle.std.specs.Prelude.{◌≡◌, ◌⊎◌, Result, Ok, Err}
use Rattle.reg_rules.specs.reg_refusals.Refusal.{no_memory}
use Rattle.reg_rules.specs.reg_refusals.declared.refusal.Refusal.{Refusal}
use Rattle.reg_leader.specs.Course.{Course, Refused, Does}
use Rattle.reg_leader.specs.declared.deed.Deed.{Deed}

-- a course is followed to its end
abbrev pub Follows : Course → Result Deed Refusal → Type 0
Follows course (Ok deed) = course ≡ Does deed.reply deed.writings.items
Follows course (Err refusal) = (refusal ≡ no_memory) ⊎ (course ≡ Refused refusal)
