use Rattle.std.proofs.Common.{All}
use Rattle.reg_records.specs.Written.{HasLine}
use Rattle.test_log.proofs.batches.batch_of.Given as goal

abbrev pub invariant-loop-k : goal.invariant-loop-k
invariant-loop-k l = All HasLine l.batch.items
