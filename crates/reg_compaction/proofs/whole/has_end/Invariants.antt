use Rattle.std.proofs.Common.{◌≡◌, ◌++◌, ◌∷◌, ◌≤◌, List, ℕ, length, true}
use Rattle.reg_compaction.specs.Whole.{is_end}
use Rattle.reg_compaction.proofs.whole.has_end.Given as goal

-- no such line stands behind an LF before this place
abbrev pub invariant-loop-place : goal.invariant-loop-place
invariant-loop-place l = (front behind : List ℕ) → l.fn.text ≡ front ++ 10 ∷ behind → is_end behind ≡ true → l.place ≤ length front
