-- What is taken from a reader at the front of a request.
use Rattle.std.specs.Prelude.{◌≡◌, ◌≤◌, ◌<◌, ⊤, ℕ, ◌+◌, List, [], ◌∷◌, ◌++◌, true, false}
use Rattle.std.specs.Prelude.{length, take, Option, MatchOption, IfSome, if◌then◌else◌}
use Rattle.std.specs.Io.KnownBytes.{Consumes, IsAtEnd}
use Rattle.std.specs.List.{list_all}
use Rattle.reg_refusals.specs.declared.refusal.Refusal.TheVariants as refusals
use Rattle.reg_messages.specs.Head.{front_of, has_few_lines, head, is_skipped, ends_in_empty_line, no_head, over}
use Rattle.reg_messages.specs.declared.head.Blank.{Blank}
use Rattle.reg_messages.specs.declared.head.HeadEnd.{HeadEnd}
use Rattle.reg_messages.specs.declared.head.HeadEnd.TheVariants as ends
use Rattle.reg_messages.specs.declared.head.Taken.{Taken}
use Rattle.reg_messages.specs.declared.head.Taken.TheVariants as takens
use Rattle.reg_messages.specs.declared.limits.TheConstants.{HEAD_LIMIT}

-- so many bytes that are skipped, and then one that isn't, the end, or one skipped byte too many
abbrev pub TakesBlank : Option (List ℕ) → Option (List ℕ) → Blank → Type 0
TakesBlank old new blank = (bytes : List ℕ) × (length bytes ≡ blank.count) × (list_all is_skipped bytes ≡ true)
    × MatchOption blank.next (Consumes old new bytes × (blank.count ≤ HEAD_LIMIT → IsAtEnd new))
    (λ b. (is_skipped b ≡ false) × Consumes old new (bytes ++ b ∷ []))

-- before the reader was lost it gave bytes that are skipped, no more than a head may have
abbrev pub LosesBlank : Option (List ℕ) → Option (List ℕ) → Type 0
LosesBlank old new = (bytes : List ℕ) × (length bytes ≤ HEAD_LIMIT) × (list_all is_skipped bytes ≡ true) × Consumes old new bytes

-- none of the bytes, after those before, ends an empty line
abbrev pub HasNoEnd : List ℕ → List ℕ → Type 0
HasNoEnd before [] = ⊤
HasNoEnd before (b ∷ bytes) = (ends_in_empty_line (before ++ b ∷ []) ≡ false) × HasNoEnd (before ++ b ∷ []) bytes

-- the bytes in the buffer, of which the first was there: they end at the first empty line, at the end of the input, or there are as
-- many as may be
abbrev pub TakesHead : Option (List ℕ) → Option (List ℕ) → List ℕ → List ℕ → ℕ → HeadEnd → Type 0
TakesHead old new before after limit (ends.Found len) =
    (taken : List ℕ) × (last : ℕ) × Consumes old new (taken ++ last ∷ []) × (take len after ≡ take 1 before ++ (taken ++ last ∷ []))
    × (len ≤ limit) × HasNoEnd (take 1 before) taken × (ends_in_empty_line (take len after) ≡ true)
TakesHead old new before after limit ends.Ended =
    (taken : List ℕ) × Consumes old new taken × HasNoEnd (take 1 before) taken × IsAtEnd new × (length taken + 1 < limit)
TakesHead old new before after limit ends.Full =
    (taken : List ℕ) × Consumes old new taken × HasNoEnd (take 1 before) taken × (length taken + 1 ≡ limit)

-- before the reader was lost it gave bytes after the first, fewer than the limit and without an empty line
abbrev pub LosesHead : Option (List ℕ) → Option (List ℕ) → List ℕ → ℕ → Type 0
LosesHead old new before limit = (taken : List ℕ) × Consumes old new taken × HasNoEnd (take 1 before) taken × (length taken + 1 < limit)

-- what was taken is a head with what is skipped before it, whatever stands after it
abbrev pub IsTakenAs : List ℕ → List ℕ → Type 0
IsTakenAs taken bytes = (more : List ℕ) → front_of (taken ++ more) ≡ head bytes more

-- the bytes are a head's, if they are few lines
abbrev pub taken_head : List ℕ → Taken
taken_head bytes = if has_few_lines bytes then takens.Head (length bytes) else takens.NoHead refusals.HeadTooLarge

-- the front of a text: no request, no head, or a head in the buffer, of which no byte more was taken
abbrev pub TakesFront : Option (List ℕ) → Option (List ℕ) → List ℕ → Taken → Type 0
TakesFront old new buffer takens.Over = IfSome old (λ text. front_of text ≡ over)
TakesFront old new buffer (takens.NoHead refusal) = IfSome old (λ text. front_of text ≡ no_head refusal)
TakesFront old new buffer (takens.Head len) =
    (len ≤ length buffer) × (taken : List ℕ) × Consumes old new taken × IsTakenAs taken (take len buffer)
