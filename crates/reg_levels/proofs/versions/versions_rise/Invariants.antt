use Rattle.std.proofs.Common.{ℕ, ◌+◌, ◌<◌, map}
use Rattle.std.specs.List.{slice_index}
use Rattle.reg_levels.proofs.versions.versions_rise.Given as goal

abbrev pub invariant-loop-place : goal.invariant-loop-place
invariant-loop-place g l =
    (k : ℕ) → k + 1 < l.place → slice_index (map (λ old. old.0) l.olds) k < slice_index (map (λ old. old.0) l.olds) (k + 1)
