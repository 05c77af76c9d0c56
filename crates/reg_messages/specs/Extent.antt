-- Where the message at the front of a text ends, whatever comes after it.
use Rattle.std.specs.Prelude.{◌≡◌, ◌⊎◌, ◌<◌, ◌≤◌, ⊤, ℕ, ◌-◌, List, [], ◌∷◌, ◌++◌, true, false, length, take}
use Rattle.httparse.specs.Grammar.{RequestHead}
use Rattle.reg_refusals.specs.declared.refusal.Refusal.{Refusal}
use Rattle.reg_refusals.specs.declared.refusal.Refusal.TheVariants as refusals
use Rattle.reg_messages.specs.Fields.{body_length}
use Rattle.reg_messages.specs.Head.{Front, front_of, head, no_head, over, is_skipped, ends_in_empty_line, IsHead}
use Rattle.reg_messages.specs.HeadReading.{HasNoEnd}
use Rattle.reg_messages.specs.Messages.{fields_of}
use Rattle.reg_messages.specs.Reading.{IsShort}

-- no head stands at the front, whatever comes after these bytes
abbrev pub IsNeverHead : List ℕ → Type 0
IsNeverHead part = (refusal : Refusal) × ((more : List ℕ) → front_of (part ++ more) ≡ no_head refusal)

-- a head stands at the front, and after it as many bytes as its body has, whatever comes after these bytes
abbrev pub IsWithBody : List ℕ → Type 0
IsWithBody part = (bytes : List ℕ) × (after : List ℕ)
    × ((more : List ℕ) → front_of (part ++ more) ≡ head bytes (after ++ more))
    × ((h : RequestHead) → IsHead bytes h → length after ≡ body_length (fields_of h))

-- what is read at the front of these bytes is the same whatever comes after them, and it ends with them or is refused
abbrev pub IsWhole : List ℕ → Type 0
IsWhole part = IsNeverHead part ⊎ IsWithBody part

-- the message at the front of a text ends after so many bytes: these are whole, and a text that hasn't as many is short
abbrev pub EndsAt : List ℕ → ℕ → Type 0
EndsAt text n = (n ≤ length text → IsWhole (take n text)) × (length text < n → IsShort (front_of text))

-- the message at the front takes so many bytes in all, whatever comes after these
abbrev pub TakesInAll : List ℕ → ℕ → Type 0
TakesInAll part n = (more : List ℕ) → EndsAt (part ++ more) n

-- the end of a head isn't there yet
abbrev pub LacksHead : Front → Type 0
LacksHead over = ⊤
LacksHead (no_head refusal) = refusal ≡ refusals.BadRequest
LacksHead (head bytes after) = ⊥

-- there are no bytes, or they begin with one that isn't skipped
abbrev pub BeginsKept : List ℕ → Type 0
BeginsKept [] = ⊤
BeginsKept (b ∷ bytes) = is_skipped b ≡ false

-- so many bytes end in the first empty line
abbrev pub EndsFirst : List ℕ → ℕ → Type 0
EndsFirst bytes n = (0 < n) × HasNoEnd [] (take (n - 1) bytes) × (ends_in_empty_line (take n bytes) ≡ true)
