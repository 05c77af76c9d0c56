-- Private: what is read of a message whose head was read before.
use Rattle.std.specs.Prelude.{◌≡◌, List, ℕ, Bool, Option, Some, IfSome, IsOk, Ok, Err}
use Rattle.httparse.specs.Grammar.{RequestHead}
use Rattle.reg_messages.specs.Fields.{told_length}
use Rattle.reg_messages.specs.Messages.{after_body, fields_of, request_of, request_with, wants_close}
use Rattle.reg_messages.specs.declared.reading.Got.{Got}
use Rattle.reg_messages.specs.declared.reading.Got.TheVariants as gots
use Rattle.reg_messages.specs.declared.request.Request.{Request}

-- what was read after the head
abbrev pub GetsAfter : RequestHead → Option (List ℕ) → Option (List ℕ) → Got Request → Type 0
GetsAfter h old new gots.Over = ⊥
GetsAfter h old new (gots.Refused refusal) = told_length (fields_of h) ≡ Err refusal
GetsAfter h old new (gots.Message request told wants) = (told_length (fields_of h) ≡ Ok told) × (wants ≡ wants_close h)
    × IfSome old (λ after. (new ≡ Some (after_body h after)) × (request ≡ request_of h after))
GetsAfter h old new (gots.NoMemory wants) = IsOk (told_length (fields_of h)) × (wants ≡ wants_close h)
    × IfSome old (λ after. new ≡ Some (after_body h after))

-- the message with that body, or that memory was refused
abbrev pub GetsWith : RequestHead → Option ℕ → Option (List ℕ) → Bool → Got Request → Type 0
GetsWith h told body wants gots.Over = ⊥
GetsWith h told body wants (gots.Refused refusal) = ⊥
GetsWith h told body wants (gots.Message request told' wants') = (request ≡ request_with h body) × (told' ≡ told) × (wants' ≡ wants)
GetsWith h told body wants (gots.NoMemory wants') = wants' ≡ wants
