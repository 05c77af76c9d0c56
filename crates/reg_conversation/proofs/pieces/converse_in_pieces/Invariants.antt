use Rattle.std.proofs.Common.{◌≡◌, ◌≤◌, take, true}
use Rattle.reg_records.specs.Device.{bytes_in, faults_of, interruptions_of}
use Rattle.reg_responses.specs.declared.limits.TheConstants.{INTERRUPTION_LIMIT}
use Rattle.reg_conversation.specs.Conversation.{AnswersWhole}
use Rattle.reg_conversation.specs.Pieces.{text_of}
use Rattle.reg_conversation.proofs.pieces.converse_in_pieces.Given as goal

-- the requests that are whole in the pieces so far are answered, whatever comes later
abbrev pub invariant-loop-piece : goal.invariant-loop-piece
invariant-loop-piece g l =
    AnswersWhole g.D.Desk.asks g.D.Desk.commands l.fn.desk (text_of (take l.piece-index l.pieces)) (bytes_in g.W.Write.contents l.fn.writer)
    (bytes_in g.W.Write.contents l.writer) l.conversation l.desk true
    × (faults_of l.writer ≡ faults_of l.fn.writer) × (interruptions_of l.writer ≤ INTERRUPTION_LIMIT)
