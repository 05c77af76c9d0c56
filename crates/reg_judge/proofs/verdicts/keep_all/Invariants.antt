use Rattle.std.proofs.Common.{◌≡◌, Bool, ◌&&◌, List}
use Rattle.reg_judge.specs.Judge.{TextPair, UsesInTurn}
use Rattle.reg_judge.specs.Kept.{AreVerdicts, pairs_of}
use Rattle.reg_judge.proofs.verdicts.keep_all.Given as goal

-- those that are kept are right, and so are those that are left, which are still to be used
abbrev pub invariant-loop-pair : goal.invariant-loop-pair
invariant-loop-pair l = record {
  kept : AreVerdicts l.kept.entries;
  left : AreVerdicts l.pair-iterator.rest.items;
  capacity : l.kept.cap ≡ l.fn.kept.cap;
  used : (after : List TextPair) (rest : Bool)
      → UsesInTurn l.fn.kept.cap (pairs_of l.pair-iterator.rest.items) (pairs_of l.kept.entries) after rest
      → UsesInTurn l.fn.kept.cap (pairs_of l.fn.used.items) (pairs_of l.fn.kept.entries) after (l.all && rest);
}
