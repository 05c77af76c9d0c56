use Rattle.std.proofs.Common.{take}
use Rattle.reg_levels.specs.declared.verdict.LevelVerdict.{LevelVerdict}
use Rattle.reg_levels.specs.RequiredPairs.{required_of}
use Rattle.reg_levels.specs.LevelVerdict.{IsVerdictOn}
use Rattle.reg_levels.specs.Texts.{nodes_in}
use Rattle.reg_levels.proofs.Considered.{pairs_from}
use Rattle.reg_levels.proofs.texts.check_each_text.Given as goal

-- the versions that are left decide
abbrev pub invariant-loop-place : goal.invariant-loop-place
invariant-loop-place l =
    (v : LevelVerdict)
    → IsVerdictOn (pairs_from (required_of l.level l.new.nodes) (λ old. (old.0, nodes_in old.1.now)) (take l.place l.olds)) v
    → IsVerdictOn (pairs_from (required_of l.level l.new.nodes) (λ old. (old.0, nodes_in old.1.now)) l.olds) v
