-- What is answered of a text that comes in pieces.
use Rattle.std.specs.Prelude.{◌≡◌, ℕ, List, ◌++◌, true, Option, Result}
use Rattle.std.specs.Borrow.{Bor}
use Rattle.std.specs.List.{flat_map}
use Rattle.std.specs.declared.alloc.AllocError.{AllocError}
use Rattle.reg_leader.specs.declared.command.Command.{Command}
use Rattle.reg_leader.specs.declared.reply.Reply.{Reply}
use Rattle.reg_lookup.specs.declared.answered.Answer.{Answer}
use Rattle.reg_lookup.specs.declared.query.Query.{Query}
use Rattle.reg_records.specs.Device.{faults_of}
use Rattle.reg_records.specs.declared.device.Device.{Device}
use Rattle.reg_conversation.specs.Conversation.{AnswersWhole, Stops}
use Rattle.reg_conversation.specs.declared.pieces.PieceError.{PieceError}
use Rattle.reg_conversation.specs.declared.pieces.PieceError.TheVariants as errors

-- the text that comes in these pieces
abbrev pub text_of : List (Bor (List ℕ)) → List ℕ
text_of pieces = flat_map (λ piece. piece.now) pieces

module _ {D : Type 0} (asks : D → Query → Result Answer AllocError → D → Type 0) (commands : D → Command → Reply → D → Type 0) where
  -- why a piece wasn't answered: it was lost, and nothing else changed; or the text that goes on with it was answered in part
  abbrev pub LosesPiece : {W : Type 0} → Device W → Device W → D → List ℕ → List ℕ
      → Option (List ℕ)
      → Option (List ℕ)
      → List ℕ
      → D
      → PieceError
      → Type 0
  LosesPiece writer writer' old held piece before after held' new errors.NoMemory = (writer' ≡ writer) × (new ≡ old) × (held' ≡ held)
  LosesPiece writer writer' old held piece before after held' new (errors.Failed e) =
      (more : List ℕ) → Stops asks commands writer writer' old ((held ++ piece) ++ more) before after new e

  -- why a text wasn't answered to its end: each request that was whole in the pieces which came before was answered, and nothing else;
  -- or the text was answered in part
  abbrev pub StopsPieces : {W : Type 0} → Device W → Device W → D → List ℕ → Option (List ℕ) → Option (List ℕ) → D → PieceError → Type 0
  StopsPieces writer writer' old text before after new errors.NoMemory = (faults_of writer' ≡ faults_of writer)
      × (came : List ℕ) × (later : List ℕ) × (text ≡ came ++ later)
      × (held : List ℕ) × AnswersWhole asks commands old came before after held new true
  StopsPieces writer writer' old text before after new (errors.Failed e) = Stops asks commands writer writer' old text before after new e
