-- How a reader's lines are taken piece by piece.
use Rattle.std.proofs.Common.{◌≡◌, ◌≢◌, Bool, true, false, ℕ, List, [], ◌++◌, Option, Some, None}
use Rattle.std.proofs.Common.{OnSome, refl, sym, ap, subst, ◌∙◌, append_assoc, append-nil}
use Rattle.std.specs.Bool.{MatchBool}
use Rattle.std.proofs.KnownBytes.{Consumes-kept, Consumes-trans}
use Rattle.std.specs.Io.KnownBytes.{Consumes, IsAtEnd, Keeps}
use Rattle.std.specs.declared.io.ErrorKind.{ErrorKind}
use Rattle.std.specs.declared.io.ErrorKind.TheVariants.{Interrupted}
use Rattle.reg_records.specs.declared.record.Read.{Read}
use Rattle.reg_intake.specs.Intake.{IsRefusal}
use Rattle.reg_intake.specs.Pieces.{IsGiveFault}
use Rattle.reg_intake.specs.declared.fault.IntakeError.{IntakeError}
use Rattle.reg_intake.specs.declared.fault.IntakeError.TheVariants as intakes
use Rattle.reg_intake.specs.declared.pieces.GiveError.{GiveError}
use Rattle.reg_intake.specs.declared.pieces.GiveError.TheVariants as gives
use Rattle.reg_follow.specs.Following.{EndsAs, EndsShown, Following, Follows, HasFollowCause, HasLeft, HasTaken}
use Rattle.reg_follow.specs.Following.{IsFollowRefusal, IsShown, IsStopped, follow_error_of, follow_error_of_read, list_of}
use Rattle.reg_follow.specs.declared.ended.LinesEnd.{LinesEnd}
use Rattle.reg_follow.specs.declared.ended.LinesEnd.TheVariants as ends
use Rattle.reg_follow.proofs.Taking.{is_stopped, more_taken}

consumes_nothing : (o : Option (List ℕ)) → Consumes o o []
consumes_nothing None = tt
consumes_nothing (Some x) = refl

at_end : (old mid new : Option (List ℕ)) (bytes : List ℕ) → Consumes old mid bytes → IsAtEnd mid → Keeps mid new → OnSome old (IsAtEnd new)
at_end None mid new bytes read end kept = tt
at_end (Some x) None new bytes read end kept = absurd read
at_end (Some x) (Some y) None bytes read end kept = absurd kept
at_end (Some x) (Some y) (Some z) bytes read end kept = kept ∙ end

-- nothing was read yet
pub begun : (old : Option (List ℕ)) (text : List ℕ) (read : List Read) (s : Following) → HasTaken text read s → Follows old old text read s
begun old text read s has = record {
  bytes = [];
  more = [];
  consumed = consumes_nothing old;
  taken = subst (λ (t : List ℕ). HasTaken t (read ++ []) s) (sym (append-nil text))
      (subst (λ (r : List Read). HasTaken text r s) (sym (append-nil read)) has);
}

-- a piece more
pub piece : (old mid new : Option (List ℕ)) (text : List ℕ) (read : List Read)
    (before after : Following) (f : Follows old mid text read before) (bytes : List ℕ)
    → Consumes mid new bytes → HasTaken ((text ++ f.bytes) ++ bytes) (read ++ f.more) after → Follows old new text read after
piece old mid new text read before after f bytes consumed taken = record {
  bytes = f.bytes ++ bytes;
  more = f.more;
  consumed = Consumes-trans old mid new f.bytes bytes f.consumed consumed;
  taken = subst (λ (t : List ℕ). HasTaken t (read ++ f.more) after) (append_assoc text f.bytes bytes) taken;
}

-- what is there is published
pub shown : (old new : Option (List ℕ)) (text : List ℕ) (read : List Read)
    (before after : Following) (f : Follows old new text read before) (more : List Read)
    → HasTaken (text ++ f.bytes) ((read ++ f.more) ++ more) after → Follows old new text read after
shown old new text read before after f more taken = record {
  bytes = f.bytes;
  more = f.more ++ more;
  consumed = f.consumed;
  taken = more_taken (text ++ f.bytes) read f.more more after taken;
}

-- nothing came
pub kept : (old mid new : Option (List ℕ)) (text : List ℕ) (read : List Read) (before after : Following)
    → Follows old mid text read before → Keeps mid new → after ≡ before
    → Follows old new text read after
kept old mid new text read before after f keeps same = record {
  bytes = f.bytes;
  more = f.more;
  consumed = Consumes-kept old mid new f.bytes f.consumed keeps;
  taken = subst (λ (s : Following). HasTaken (text ++ f.bytes) (read ++ f.more) s) (sym same) f.taken;
}

-- the input has ended
pub ended : (old mid new : Option (List ℕ)) (text : List ℕ) (read : List Read) (before after : Following) (end : LinesEnd)
    → Follows old mid text read before → IsAtEnd mid → Keeps mid new
    → HasLeft after.unread.bytes end → EndsAs old new after end
ended old mid new text read before after ends.Input f over keeps left = (at_end old mid new f.bytes f.consumed over keeps, left)
ended old mid new text read before after ends.Unfinished f over keeps left = (at_end old mid new f.bytes f.consumed over keeps, left)
ended old mid new text read before after ends.EmptyLine f over keeps left = absurd left

-- and what waited before waits then
pub ended_shown : (before after : Following) (end : LinesEnd)
    → after ≡ before → HasLeft after.unread.bytes end → IsShown before → EndsShown after end
ended_shown before after ends.Input same left shown = subst (λ (s : Following). IsShown s) (sym same) shown
ended_shown before after ends.Unfinished same left shown = subst (λ (s : Following). IsShown s) (sym same) shown
ended_shown before after ends.EmptyLine same left shown = absurd left

-- a line that isn't whole is next
pub goes_on_before : (goes_on : Bool) (A B : Type 0) → goes_on ≡ true → MatchBool goes_on A B → A
goes_on_before true A B is it = it
goes_on_before false A B is it = absurd (cc is)

-- an empty line is next
pub stops_before : (goes_on : Bool) (A B : Type 0) → goes_on ≡ false → MatchBool goes_on A B → B
stops_before true A B is it = absurd (cc is)
stops_before false A B is it = it

read_cause : {B : Type 0} (fails : B → ErrorKind → B → Type 0) (before reader : B) (s : Following) (e : GiveError)
    → IsGiveFault fails before reader e → e ≢ gives.Read Interrupted → HasFollowCause fails reader s (follow_error_of_read e)
read_cause fails before reader s (gives.Read kind) fault other = (before, kind, λ is. other (ap gives.Read is), fault)
read_cause fails before reader s gives.OutOfMemory fault other = tt

-- a read gave nothing
pub read_refused : {B : Type 0} (fails : B → ErrorKind → B → Type 0) (before reader : B) (old mid new : Option (List ℕ))
    (text : List ℕ) (read : List Read) (s after : Following) (e : GiveError)
    → Follows old mid text read s → Keeps mid new → after ≡ s
    → IsGiveFault fails before reader e → e ≢ gives.Read Interrupted
    → IsFollowRefusal fails old new reader text read after (follow_error_of_read e)
read_refused fails before reader old mid new text read s after e f keeps same fault other =
    let g = kept old mid new text read s after f keeps same in record {
      bytes = g.bytes;
      more = g.more;
      consumed = g.consumed;
      has = g.taken.has;
      begins = ([], append-nil (list_of after) ∙ g.taken.list);
      cause = read_cause fails before reader after e fault other;
    }

line_cause : {B : Type 0} (fails : B → ErrorKind → B → Type 0) (reader : B) (s : Following) (e : IntakeError)
    → IsRefusal s.unread e → HasFollowCause fails reader s (follow_error_of e)
line_cause fails reader s (intakes.Fault line fault) refusal = refusal
line_cause fails reader s intakes.OutOfMemory refusal = tt

-- publishing stopped
pub lines_refused : {B : Type 0} (fails : B → ErrorKind → B → Type 0) (reader : B) (old new : Option (List ℕ))
    (text : List ℕ) (read : List Read) (before after : Following) (f : Follows old new text read before) (e : IntakeError)
    → IsStopped (text ++ f.bytes) (read ++ f.more) e after
    → IsFollowRefusal fails old new reader text read after (follow_error_of e)
lines_refused fails reader old new text read before after f e stopped =
    let it = is_stopped (text ++ f.bytes) read f.more e after stopped in record {
      bytes = f.bytes;
      more = it.more;
      consumed = f.consumed;
      has = it.has;
      begins = it.begins;
      cause = line_cause fails reader after e it.refusal;
    }
