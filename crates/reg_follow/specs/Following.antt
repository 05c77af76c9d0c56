-- What a node has of the lines of a log that it follows.
use Rattle.std.specs.Prelude.{◌≡◌, ◌≢◌, ◌<◌, ◌≤◌, ⊤, ℕ, List, [], ◌∷◌, ◌++◌, Bool, length}
use Rattle.std.specs.Prelude.{IfOk, OnSome, Option, Some, None, Result, option_to_list}
use Rattle.std.specs.declared.alloc.AllocError.{AllocError}
use Rattle.std.specs.declared.io.ErrorKind.{ErrorKind}
use Rattle.std.specs.declared.io.ErrorKind.TheVariants.{Interrupted}
use Rattle.std.specs.FinSet.{from_list}
use Rattle.std.specs.Io.KnownBytes.{Consumes, IsAtEnd, Keeps}
use Rattle.std.specs.Bool.{MatchBool}
use mathlib.Core.List.{IsPrefix}
use Rattle.reg_records.specs.Device.{counted, counted_by}
use Rattle.reg_records.specs.Log.{record_in, records_in}
use Rattle.reg_records.specs.Pieces.{HasNoLineFeed}
use Rattle.reg_records.specs.declared.record.Read.{Read}
use Rattle.reg_set.specs.LastRecords.{last_records}
use Rattle.reg_lookup.specs.Answers.{IsAnswer}
use Rattle.reg_lookup.specs.declared.answered.Answer.{Answer}
use Rattle.reg_lookup.specs.declared.query.Query.{Query}
use Rattle.reg_node.specs.Takes.{taken, takes_of}
use Rattle.reg_node.specs.declared.take.Draw.{Draw}
use Rattle.reg_desk.specs.FeedDesk.{Stands}
use Rattle.reg_intake.specs.Intake.{HasRead, IsRefusal, Unread, records_of_first}
use Rattle.reg_intake.specs.declared.fault.IntakeError.{IntakeError}
use Rattle.reg_intake.specs.declared.fault.IntakeError.TheVariants as intakes
use Rattle.reg_intake.specs.declared.incoming.Came.{Came}
use Rattle.reg_intake.specs.declared.incoming.Came.TheVariants as cames
use Rattle.reg_intake.specs.declared.pieces.GiveError.{GiveError}
use Rattle.reg_intake.specs.declared.pieces.GiveError.TheVariants as gives
use Rattle.reg_service.specs.declared.error.ServiceError.TheVariants as services
use Rattle.reg_follow.specs.declared.ended.FollowError.{FollowError}
use Rattle.reg_follow.specs.declared.ended.FollowError.TheVariants.{Fault, ReadFault, Service}
use Rattle.reg_follow.specs.declared.ended.LinesEnd.{LinesEnd}
use Rattle.reg_follow.specs.declared.ended.LinesEnd.TheVariants as ends
use Rattle.reg_follow.specs.declared.reading.Piece.{Piece}
use Rattle.reg_follow.specs.declared.reading.Piece.TheVariants as pieces
use Rattle.reg_follow.specs.declared.intake.TheConstants.{LINES_AT_ONCE}
use Rattle.reg_follow.specs.declared.intake.Stop.{Stop}
use Rattle.reg_follow.specs.declared.intake.Stop.TheVariants.{Ended, Full, Waits}

-- the bytes that no line was read of, the draws that views may show, and those that aren't published yet
pub record Following : Type 0 where
  pub unread : Unread
  pub published : List Draw
  pub pending : List Draw

abbrev pub list_of : Following → List Draw
list_of s = s.published ++ s.pending

-- the draws that lines come to: a take of each record
abbrev pub draws_of : List Read → List Draw
draws_of read = takes_of 0 (records_in read)

-- the lines of the text say this, all that are read, and the list is the takes of their records
pub record HasTaken (text : List ℕ) (read : List Read) (s : Following) : Type 0 where
  pub has : HasRead text read s.unread
  pub list : list_of s ≡ draws_of read

-- it stopped before a line that isn't whole, or before an empty one
abbrev pub StopsBefore : Stop → List ℕ → Type 0
StopsBefore Full bytes = ⊥
StopsBefore Waits bytes = HasNoLineFeed bytes
StopsBefore Ended bytes = (rest : List ℕ) × (bytes ≡ 10 ∷ rest)

-- why it stopped: 1,000 lines more were read, or it stopped before such a line
abbrev pub StopsAt : Stop → Unread → Unread → Type 0
StopsAt Full old new = new.count ≡ counted_by LINES_AT_ONCE old.count
StopsAt stop old new = StopsBefore stop new.bytes

-- more lines of the text were taken, until there
pub record GoesOn (text : List ℕ) (read : List Read) (stop : Stop) (old new : Following) : Type 0 where
  pub more : List Read
  pub taken : HasTaken text (read ++ more) new
  pub stops : StopsAt stop old.unread new.unread

-- more lines were read, and the list begins what they come to; the next one can't be read, or memory was refused
pub record IsStopped (text : List ℕ) (read : List Read) (e : IntakeError) (new : Following) : Type 0 where
  pub more : List Read
  pub has : HasRead text (read ++ more) new.unread
  pub begins : IsPrefix (list_of new) (draws_of (read ++ more))
  pub refusal : IsRefusal new.unread e

-- all that was pending is published
abbrev pub published : Following → Following
published s = record s { published = list_of s; pending = [] }

-- Private: one line more was read
abbrev pub CountsLine : Following → Following → Type 0
CountsLine old new = new.unread.count ≡ counted old.unread.count

-- Private: what came next is not in the list yet, if it is a line
abbrev pub ComesTo : List ℕ → List Read → Following → Came → Following → Type 0
ComesTo text read old (cames.Line r) new = HasRead text (read ++ r ∷ []) new.unread × (list_of new ≡ draws_of read) × CountsLine old new
ComesTo text read old cames.Floor new = HasTaken text read new × CountsLine old new
ComesTo text read old cames.End new = HasTaken text read new × StopsBefore Ended new.unread.bytes
ComesTo text read old cames.Nothing new = HasTaken text read new × StopsBefore Waits new.unread.bytes

-- Private: one line more was read, and taken if it says a record; or none, and it stops there
abbrev pub TakesLine : List ℕ → List Read → Following → Option Stop → Following → Type 0
TakesLine text read old None new = (more : List Read) × HasTaken text (read ++ more) new × CountsLine old new
TakesLine text read old (Some stop) new = HasTaken text read new × StopsBefore stop new.unread.bytes

-- Private: the take of a line's record, if it says one, is pending behind the others
pub record Adds (old : Following) (read : Read) (new : Following) : Type 0 where
  pub unread : new.unread ≡ old.unread
  pub published : new.published ≡ old.published
  pub pending : new.pending ≡ old.pending ++ takes_of 0 (option_to_list (record_in read))

abbrev pub follow_error_of : IntakeError → FollowError
follow_error_of (intakes.Fault line fault) = Fault line fault
follow_error_of intakes.OutOfMemory = Service services.OutOfMemory

abbrev pub follow_error_of_read : GiveError → FollowError
follow_error_of_read (gives.Read kind) = ReadFault
follow_error_of_read gives.OutOfMemory = Service services.OutOfMemory

-- the front is what the first lines come to, so many of those that say something
abbrev pub IsOfFirst : List Read → ℕ → List Draw → Type 0
IsOfFirst read n front = (n ≤ length read) × (front ≡ takes_of 0 (records_of_first n read))

-- what was read of a reader is behind the text, and more lines of that are taken
pub record Follows (old new : Option (List ℕ)) (text : List ℕ) (read : List Read) (s : Following) : Type 0 where
  pub bytes : List ℕ
  pub more : List Read
  pub consumed : Consumes old new bytes
  pub taken : HasTaken (text ++ bytes) (read ++ more) s

-- why lines aren't followed any more: the next line has that fault, a read failed other than by an interruption, or memory was refused
abbrev pub HasFollowCause : {B : Type 0} → (B → ErrorKind → B → Type 0) → B → Following → FollowError → Type 0
HasFollowCause fails reader s (Fault line fault) = IsRefusal s.unread (intakes.Fault line fault)
HasFollowCause {B} fails reader s ReadFault = (before : B) × (kind : ErrorKind) × (kind ≢ Interrupted) × fails before kind reader
HasFollowCause fails reader s (Service services.OutOfMemory) = ⊤
HasFollowCause fails reader s other = ⊥

-- lines aren't followed any more, and why: what was read of a reader is behind the text, more lines of that were read, and the list
-- begins what they come to
pub record IsFollowRefusal {B : Type 0} (fails : B → ErrorKind → B → Type 0) (old new : Option (List ℕ)) (reader : B)
    (text : List ℕ) (read : List Read) (s : Following) (e : FollowError) : Type 0 where
  pub bytes : List ℕ
  pub more : List Read
  pub consumed : Consumes old new bytes
  pub has : HasRead (text ++ bytes) (read ++ more) s.unread
  pub begins : IsPrefix (list_of s) (draws_of (read ++ more))
  pub cause : HasFollowCause fails reader s e

-- where lines ended: the reader is at its end, and no bytes are left, or some; or an empty line stands next
abbrev pub EndsAs : Option (List ℕ) → Option (List ℕ) → Following → LinesEnd → Type 0
EndsAs old new s ends.Input = OnSome old (IsAtEnd new) × (s.unread.bytes ≡ [])
EndsAs old new s ends.Unfinished = OnSome old (IsAtEnd new) × (0 < length s.unread.bytes)
EndsAs old new s ends.EmptyLine = (rest : List ℕ) × (s.unread.bytes ≡ 10 ∷ rest)

-- no whole line waits to be read, and nothing to be published
abbrev pub IsShown : Following → Type 0
IsShown s = HasNoLineFeed s.unread.bytes × (s.pending ≡ [])

-- so it is where lines ended; where an empty line ended them, nothing waits to be published
abbrev pub EndsShown : Following → LinesEnd → Type 0
EndsShown s ends.EmptyLine = s.pending ≡ []
EndsShown s end = IsShown s

-- Private: no bytes are left, or some
abbrev pub HasLeft : List ℕ → LinesEnd → Type 0
HasLeft bytes ends.Input = bytes ≡ []
HasLeft bytes ends.Unfinished = 0 < length bytes
HasLeft bytes ends.EmptyLine = ⊥

-- Private: what one read took
abbrev pub TakesPiece : Option (List ℕ) → Option (List ℕ) → List ℕ → List Read → Following → Following → Piece → Type 0
TakesPiece old new text read before after pieces.Bytes = (bytes : List ℕ) × Consumes old new bytes × HasTaken (text ++ bytes) read after
TakesPiece old new text read before after pieces.Nothing = Keeps old new × (after ≡ before)
TakesPiece old new text read before after pieces.End = IsAtEnd old × Keeps old new × (after ≡ before)

-- Private: all lines that are whole are taken and published, or all before an empty one
pub record Publishes (text : List ℕ) (read : List Read) (goes_on : Bool) (new : Following) : Type 0 where
  pub more : List Read
  pub taken : HasTaken text (read ++ more) new
  pub none : new.pending ≡ []
  pub stops : MatchBool goes_on (HasNoLineFeed new.unread.bytes) ((rest : List ℕ) × (new.unread.bytes ≡ 10 ∷ rest))

-- where lines are followed, nothing is a front of the first none, a later front is of no fewer lines, and a front comes to the records of
-- its lines. A desk answers a query as the log of the first lines does, so many of them: no fewer than those of the front that it had seen
pub record AnswersAreOfFirstLines {C : Type 0} (asks : Stands Draw C → Query → Result Answer AllocError → Stands Draw C → Type 0)
    (read : List Read) (list : List Draw) : Type 0 where
  pub begins : IsOfFirst read 0 []
  pub later : (n : ℕ) (front after : List Draw)
      → IsOfFirst read n front
      → IsPrefix front after
      → IsPrefix after list
      → (m : ℕ) × (n ≤ m) × IsOfFirst read m after
  pub comes_to : (n : ℕ) (front : List Draw) → IsOfFirst read n front → taken front ≡ from_list (records_of_first n read)
  pub answers : (n : ℕ) (before : Stands Draw C) (q : Query) (a : Result Answer AllocError) (after : Stands Draw C)
      → IsOfFirst read n before.front
      → asks before q a after
      → IsPrefix after.front list
      → (m : ℕ) × (n ≤ m) × IsOfFirst read m after.front × IfOk a (IsAnswer (last_records (from_list (records_of_first m read))) q)
