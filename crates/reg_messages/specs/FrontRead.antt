-- What was read of the message at the front of a text, once its head has ended or is refused.
use Rattle.std.specs.Prelude.{◌≡◌, ◌⊎◌, ◌≤◌, ℕ, List, ◌++◌, length, take, drop, unwrap_or, Result, Ok, Err}
use Rattle.httparse.specs.Grammar.{RequestHead}
use Rattle.httparse.specs.Spans.{IsWithin, span_bytes}
use Rattle.reg_refusals.specs.declared.refusal.Refusal.{Refusal}
use Rattle.reg_refusals.specs.declared.refusal.Refusal.TheVariants as refusals
use Rattle.reg_messages.specs.Fields.{told_length}
use Rattle.reg_messages.specs.Head.{IsHead, IsNoHead}
use Rattle.reg_messages.specs.HeadReading.{IsTakenAs}
use Rattle.reg_messages.specs.Messages.{fields_of, wants_close}
use Rattle.reg_messages.specs.Reading.{IsRefusedAt}
use Rattle.reg_messages.specs.Types.{has_accepted_types}
use Rattle.reg_messages.specs.declared.front.FrontRead.{FrontRead}
use Rattle.reg_messages.specs.declared.head_read.HeadRead.{HeadRead}

-- what was read of a head, in its bytes, is what it says
pub record Says (bytes : List ℕ) (read : HeadRead) (h : RequestHead) : Type 0 where
  pub method : span_bytes bytes read.method ≡ h.method
  pub target : span_bytes bytes read.target ≡ h.target
  pub method_within : IsWithin (length bytes) read.method
  pub target_within : IsWithin (length bytes) read.target
  pub told : told_length (fields_of h) ≡ Ok read.told
  pub wants_close : read.wants_close ≡ wants_close h
  pub is_accepted : read.is_accepted ≡ has_accepted_types (fields_of h)

-- what was read of a head that is known, or that the length of its body is refused
abbrev pub IsSaid : List ℕ → RequestHead → Result HeadRead Refusal → Type 0
IsSaid bytes h (Ok read) = Says bytes read h
IsSaid bytes h (Err refusal) = told_length (fields_of h) ≡ Err refusal

-- what was read of the bytes of a head, or why they are refused
abbrev pub IsReadOf : List ℕ → Result HeadRead Refusal → Type 0
IsReadOf bytes (Ok read) = (h : RequestHead) × IsHead bytes h × Says bytes read h
IsReadOf bytes (Err refusal) = (IsNoHead bytes × (refusal ≡ refusals.BadRequest))
    ⊎ ((h : RequestHead) × IsHead bytes h × (told_length (fields_of h) ≡ Err refusal))

-- how many bytes the body has; none where the head is refused
abbrev pub read_length : Result HeadRead Refusal → ℕ
read_length (Ok read) = unwrap_or read.told 0
read_length (Err refusal) = 0

-- what stands at the front of these bytes, whatever comes after them: a head from that place on, of which that was read, or what is
-- refused
abbrev pub IsReadAs : List ℕ → ℕ → Result HeadRead Refusal → Type 0
IsReadAs taken start (Ok read) = (start ≤ length taken) × IsTakenAs taken (drop start taken) × IsReadOf (drop start taken) (Ok read)
IsReadAs taken start (Err refusal) = (more : List ℕ) → IsRefusedAt (taken ++ more) refusal

-- what was read of the message at the front of a text, whatever comes after it
abbrev pub IsFrontOf : List ℕ → FrontRead → Type 0
IsFrontOf text front = (front.end ≤ front.len) × (front.end ≤ length text) × IsReadAs (take front.end text) front.start front.read.read
