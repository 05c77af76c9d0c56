use Rattle.std.proofs.Common.{◌++◌, map, take, drop}
use Rattle.reg_levels.specs.RequiredPairs.{directions}
use Rattle.reg_judge.specs.Kept.{AreVerdicts, LeadsTo, asked, asked_from, pairs_of}
use Rattle.reg_judge.proofs.judging.judge_each.Given as goal

-- the versions that are left decide
abbrev pub invariant-loop-place : goal.invariant-loop-place
invariant-loop-place l = record {
  verdicts : AreVerdicts l.used.items;
  leads : LeadsTo (asked_from l.fn.level l.new l.olds) (pairs_of l.used.items) (asked_from l.fn.level l.new (take l.place l.olds));
}

-- so do the directions that are left, and then those versions
abbrev pub invariant-loop-direction : goal.invariant-loop-direction
invariant-loop-direction l = record {
  verdicts : AreVerdicts l.used.items;
  leads : LeadsTo (asked_from l.fn.level l.new l.olds) (pairs_of l.used.items)
      (map (asked l.new l.old) (drop l.direction-index (directions l.fn.level)) ++ asked_from l.fn.level l.new (take l.place l.olds));
}
