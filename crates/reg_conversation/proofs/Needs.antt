-- What was read of a request, once more of its bytes came.
use Rattle.std.proofs.Common.{◌≡◌, ◌≤◌, ◌<◌, ◌++◌, List, ℕ, Bool, true, false, Some, None, IfSome, if◌then◌else◌, length, sym, subst, take}
use Rattle.std.specs.Prelude.{IfNone, MatchOption, Option, option_map}
use Rattle.std.proofs.lemmas.List.{append_assoc}
use Rattle.reg_messages.specs.Extent.{EndsAt, TakesInAll}
use Rattle.reg_messages.specs.FrontRead.{IsFrontOf}
use Rattle.reg_messages.specs.declared.front.FrontRead.{FrontRead}
use Rattle.reg_messages.proofs.FrontsRead.{front-alone, front-more}
use Rattle.reg_conversation.specs.Conversation.{IsKnownFront, IsNeeded}

known-more : (front : Option FrontRead) (held bytes : List ℕ) → IfSome front (IsKnownFront held) → IfSome front (IsKnownFront (held ++ bytes))
known-more None held bytes known = tt
known-more (Some front) held bytes ((some, takes), read) = (
  (some, λ more. subst (λ t. EndsAt t front.len) (sym (append_assoc held bytes more)) (takes (bytes ++ more))),
  front-more held bytes front read,
)

pub known-fed : (front : Option FrontRead) (held held' bytes : List ℕ) (fed : Bool) → held' ≡ (if fed then held ++ bytes else held)
    → IfSome front (IsKnownFront held) → IfSome front (IsKnownFront held')
known-fed front held held' bytes true is known = subst (λ h. IfSome front (IsKnownFront h)) (sym is) (known-more front held bytes known)
known-fed front held held' bytes false is known = subst (λ h. IfSome front (IsKnownFront h)) (sym is) known

-- what is known of the front is what was read of a request of so many bytes
pub known-alone : (kept : Option FrontRead) (front : FrontRead) (held : List ℕ) (n : ℕ) → kept ≡ Some front → front.len ≡ n → n ≤ length held
    → IfSome kept (IsKnownFront held) → IsFrontOf (take n held) front
known-alone kept front held n is len room known =
    front-alone held n front len room (subst (λ k. IfSome k (IsKnownFront held)) is known).1

-- what was just read is known
pub known_read : (front : Option FrontRead) (held : List ℕ) → IfSome front (λ read. 0 < read.len)
    → IfSome front (λ read. TakesInAll held read.len) → IfSome front (IsFrontOf held) → IfSome front (IsKnownFront held)
known_read None held some takes read = tt
known_read (Some front) held some takes read = ((some, takes), read)

pub needed_read : (front : Option FrontRead) (held : List ℕ) → IfSome front (λ read. 0 < read.len)
    → IfSome front (λ read. TakesInAll held read.len) → IfSome (option_map (λ (read : FrontRead). read.len) front) (IsNeeded held)
needed_read None held some takes = tt
needed_read (Some front) held some takes = (some, takes)

pub needed_known : (front : Option FrontRead) (read : FrontRead) (held : List ℕ) → front ≡ Some read → IfSome front (IsKnownFront held)
    → IsNeeded held read.len
needed_known front read held is known = (subst (λ f. IfSome f (IsKnownFront held)) is known).0

pub lacks_read : (front : Option FrontRead) (P : Type 0) → IfNone front P → IfNone (option_map (λ (read : FrontRead). read.len) front) P
lacks_read None P none = none
lacks_read (Some front) P none = tt

-- what was just read, or that the end of the head isn't there
pub matched_read : (front : Option FrontRead) (P : Type 0) (Q : FrontRead → Type 0) → IfNone front P → IfSome front Q → MatchOption front P Q
matched_read None P Q none some = none
matched_read (Some front) P Q none some = some
