use Rattle.std.proofs.Common.{◌≡◌}
use Rattle.reg_judge.specs.Judge.{has_pair}
use Rattle.reg_judge.specs.Kept.{pairs_of}
use Rattle.reg_judge.proofs.judge.Judge.has.Given as goal

-- what is left decides
abbrev pub invariant-loop-pair : goal.invariant-loop-pair
invariant-loop-pair l =
    has_pair (pairs_of l.pair-iterator) (l.reader_text, l.writer_text) ≡ has_pair l.self.pairs (l.reader_text, l.writer_text)
