use Rattle.std.proofs.Common.{◌<◌}
use Rattle.std.specs.Io.KnownBytes.{Keeps}
use Rattle.reg_tail.specs.Writing.{HasFailed}
use Rattle.reg_tail.proofs.writing.write_some.Given as goal

-- each turn so far was interrupted
abbrev pub invariant-loop-turn : goal.invariant-loop-turn
invariant-loop-turn g l =
    Keeps (g.W.Write.contents l.initial.writer) (g.W.Write.contents l.writer)
    × (0 < l._turn → HasFailed g.W.Write.contents g.W.Output.writes g.W.Output.flushes l.writer)
