use Rattle.std.proofs.Common.{◌≡◌, ◌<◌, ◌≤◌}
use Rattle.std.specs.Io.KnownBytes.{Keeps}
use Rattle.std.specs.IoError.{error_kind}
use Rattle.std.specs.declared.io.Error.{Error}
use Rattle.std.specs.declared.io.ErrorKind.TheVariants.{Interrupted}
use Rattle.reg_leader.specs.reg_records.Device.{all_interruptions_of, bytes_in, counted_by, faults_of, interruptions_of}
use Rattle.reg_responses.specs.Writing.{HasFailed}
use Rattle.reg_responses.proofs.writing.write_some.Given as goal

-- each turn so far was interrupted
abbrev pub invariant-loop-i : goal.invariant-loop-i
invariant-loop-i g l =
    Keeps (bytes_in g.W.Write.contents l.initial.writer) (bytes_in g.W.Write.contents l.writer)
    × (faults_of l.writer ≡ faults_of l.initial.writer) × (interruptions_of l.writer ≡ l._i)
    × (counted_by l._i (all_interruptions_of l.initial.writer) ≤ all_interruptions_of l.writer)
    × (0 < l._i → (e : Error) × (error_kind e ≡ Interrupted) × HasFailed g.W.Output.writes g.W.Output.flushes l.writer e)
