use Rattle.std.proofs.Common.{◌≡◌, ◌≤◌, length, true}
use Rattle.reg_records.specs.Device.{bytes_in, faults_of, interruptions_of}
use Rattle.reg_responses.specs.declared.limits.TheConstants.{INTERRUPTION_LIMIT}
use Rattle.reg_conversation.specs.Conversation.{AnswersSome}
use Rattle.reg_conversation.proofs.pieces.answer_whole.Given as goal

-- the requests so far are answered, whatever comes later
abbrev pub invariant-loop-len : goal.invariant-loop-len
invariant-loop-len g l =
    AnswersSome g.D.Desk.asks g.D.Desk.commands l.fn.desk l.fn.conversation (bytes_in g.W.Write.contents l.fn.writer)
    (bytes_in g.W.Write.contents l.writer) l.conversation l.desk true
    × (faults_of l.writer ≡ faults_of l.fn.writer) × (interruptions_of l.writer ≤ INTERRUPTION_LIMIT)

abbrev pub decreases-loop-len : goal.decreases-loop-len
decreases-loop-len g l = length l.conversation
