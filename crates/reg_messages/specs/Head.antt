-- The head of a request (RFC 9112), and the bytes of a text that it takes.
use Rattle.std.specs.Prelude.{◌≤◌, ℕ, List, [], ◌∷◌, ◌++◌, Bool, ◌&&◌, ◌||◌, ◌==◌, nat_eq, nat_le, nat_lt}
use Rattle.std.specs.Prelude.{length, take, drop, count_by, Option, Some, None, if◌then◌else◌, ◌+◌}
use Rattle.std.specs.List.{ends_with, list_all, prefix_len}
use Rattle.std.specs.Option.{option_map_or}
use Rattle.httparse.specs.Grammar.{RequestHead, ReadsRequest}
use Rattle.reg_refusals.specs.declared.refusal.Refusal.{Refusal}
use Rattle.reg_refusals.specs.declared.refusal.Refusal.TheVariants as refusals
use Rattle.reg_messages.specs.declared.limits.TheConstants.{HEAD_FIELDS, HEAD_LIMIT, HEAD_LINES}

-- what stands at the front of a text: no request, the bytes of a head and those after it, or no head
pub data Front : Type 0 where
  over : Front
  head : List ℕ → List ℕ → Front
  no_head : Refusal → Front

abbrev pub is_line_feed : ℕ → Bool
is_line_feed b = b == 10

-- CR and LF, which are skipped before a request
abbrev pub is_skipped : ℕ → Bool
is_skipped b = b == 13 || b == 10

-- how many bytes are skipped
abbrev pub skipped_len : List ℕ → ℕ
skipped_len text = prefix_len is_skipped text

-- LF LF, or LF CR LF, stands at the end
abbrev pub ends_in_empty_line : List ℕ → Bool
ends_in_empty_line text = ends_with nat_eq text (10 ∷ 10 ∷ []) || ends_with nat_eq text (10 ∷ 13 ∷ 10 ∷ [])

-- the bytes up to and with the first empty line, and those after it, where some bytes stand before
abbrev pub cut_after : List ℕ → List ℕ → Option (List ℕ × List ℕ)
cut_after before [] = None
cut_after before (b ∷ rest) =
    if ends_in_empty_line (before ++ b ∷ []) then Some (before ++ b ∷ [], rest) else cut_after (before ++ b ∷ []) rest

-- the bytes of a head, from its first to its empty line's last, and those after it
abbrev pub cut_head : List ℕ → Option (List ℕ × List ℕ)
cut_head text = cut_after [] text

-- the bytes in which a head is looked for
abbrev pub within_limit : List ℕ → List ℕ
within_limit text = take HEAD_LIMIT text

-- a head has so many lines before its empty line, whose own LF is one more
abbrev pub has_few_lines : List ℕ → Bool
has_few_lines bytes = nat_le (count_by is_line_feed bytes) (HEAD_LINES + 1)

-- what stands at the front of a text
unfoldable pub front_of : List ℕ → Front
front_of text =
    if list_all is_skipped text && nat_le (length text) HEAD_LIMIT then over
    else option_map_or
    (λ (bytes, after). if has_few_lines bytes then head bytes (after ++ drop HEAD_LIMIT text) else no_head refusals.HeadTooLarge)
    (cut_head (drop (skipped_len (within_limit text)) (within_limit text)))
    (no_head (if nat_lt (length text) HEAD_LIMIT then refusals.BadRequest else refusals.HeadTooLarge))

-- the bytes are that head
abbrev pub IsHead : List ℕ → RequestHead → Type 0
IsHead bytes h = ReadsRequest bytes h [] × (length h.fields ≤ HEAD_FIELDS)

-- the bytes are no head
abbrev pub IsNoHead : List ℕ → Type 0
IsNoHead bytes = (h : RequestHead) → ¬ (IsHead bytes h)
