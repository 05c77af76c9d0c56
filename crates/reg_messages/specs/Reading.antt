-- What is read at the front of a text: a message, or why there is none.
use Rattle.std.specs.Prelude.{◌≡◌, ◌⊎◌, ◌<◌, ⊤, ℕ, List, length, Option, Some, IsOk, Ok, Err}
use Rattle.std.specs.Io.KnownBytes.{Consumes}
use Rattle.httparse.specs.Grammar.{RequestHead}
use Rattle.reg_refusals.specs.declared.refusal.Refusal.{Refusal}
use Rattle.reg_refusals.specs.declared.refusal.Refusal.TheVariants as refusals
use Rattle.reg_messages.specs.Fields.{body_length, told_length}
use Rattle.reg_messages.specs.Head.{Front, front_of, head, no_head, over, IsHead, IsNoHead}
use Rattle.reg_messages.specs.Messages.{after_body, fields_of, request_of, wants_close}
use Rattle.reg_messages.specs.Parts.{Parts, parts_of}
use Rattle.reg_messages.specs.declared.reading.Got.{Got}
use Rattle.reg_messages.specs.declared.reading.Got.TheVariants as gots
use Rattle.reg_messages.specs.declared.request.Request.{Request}

-- what stands at the front is short of a whole message: the end of its head or of its body isn't there yet
abbrev pub IsShort : Front → Type 0
IsShort over = ⊤
IsShort (no_head refusal) = refusal ≡ refusals.BadRequest
IsShort (head bytes after) = (h : RequestHead) × IsHead bytes h × (length after < body_length (fields_of h))

-- of the text that was there, the reader took bytes that are short of a whole message
abbrev pub TakesShort : List ℕ → Option (List ℕ) → Type 0
TakesShort text left = (part : List ℕ) × Consumes (Some text) left part × IsShort (front_of part)

-- what stands at the front of a text can't be followed by another message
abbrev pub IsRefusedAt : List ℕ → Refusal → Type 0
IsRefusedAt text refusal = (front_of text ≡ no_head refusal)
    ⊎ ((bytes : List ℕ) × (after : List ℕ) × (front_of text ≡ head bytes after)
    × ((IsNoHead bytes × (refusal ≡ refusals.BadRequest))
    ⊎ ((h : RequestHead) × IsHead bytes h × (told_length (fields_of h) ≡ Err refusal))))

-- a head stands at the front, whose body has a known end, and what is left stands after the body
abbrev pub HasHead : List ℕ → Option (List ℕ) → List ℕ → RequestHead → List ℕ → Type 0
HasHead text left bytes h after = (front_of text ≡ head bytes after) × IsHead bytes h × IsOk (told_length (fields_of h))
    × (left ≡ Some (after_body h after))

-- what was read at the front of a text, where that is so of the request and of what was read of it
abbrev pub GetsBy : {Q : Type 0} → (Q → Request → Type 0) → List ℕ → Option (List ℕ) → Got Q → Type 0
GetsBy is text left gots.Over = front_of text ≡ over
GetsBy is text left (gots.Refused refusal) = IsRefusedAt text refusal
GetsBy is text left (gots.Message request told wants) =
    (bytes : List ℕ) × (h : RequestHead) × (after : List ℕ) × HasHead text left bytes h after
    × is request (request_of h after) × (told_length (fields_of h) ≡ Ok told) × (wants ≡ wants_close h)
GetsBy is text left (gots.NoMemory wants) =
    (bytes : List ℕ) × (h : RequestHead) × (after : List ℕ) × HasHead text left bytes h after × (wants ≡ wants_close h)

-- what was read at the front of a text
abbrev pub GetsFrom : List ℕ → Option (List ℕ) → Got Request → Type 0
GetsFrom text left got = GetsBy (λ request read. request ≡ read) text left got

-- the same, where the parts of the request are lent
abbrev pub GetsLent : {Q : Type 0} → (Q → Parts) → List ℕ → Option (List ℕ) → Got Q → Type 0
GetsLent parts text left got = GetsBy (λ request read. parts request ≡ parts_of read) text left got
