-- How the bytes that were taken for a line grow.
use Rattle.std.proofs.Common.{◌≡◌, ◌<◌, ◌≤◌, ◌+◌, inl, inr, List, ℕ, [], ◌∷◌, ◌++◌, length, take, None, Some, OnSome}
use Rattle.std.proofs.Common.{IsTrue, false, cond, nat_lt, sym, ap, subst, ◌∙◌, refl, arith, append_assoc, length-append}
use Rattle.std.specs.Io.KnownBytes.{Consumes, Keeps, IsAtEnd}
use Rattle.std.proofs.KnownBytes.{Consumes-trans, Consumes-kept}
use Rattle.std.proofs.lemmas.List.Elements.{All-append, All-from_get_or}
use Rattle.std.specs.Prelude.{Option, MatchOption, drop, position}
use Rattle.std.specs.List.{position_or_len}
use Rattle.std.proofs.lemmas.List.{get_or-take, length-take, length-take-le, take-append-drop, take_more}
use Rattle.std.proofs.lemmas.List.Quantifiers.{position-Some}
use Rattle.std.proofs.lemmas.List.Sums.{fails_before_first}
use Rattle.std.proofs.lemmas.Option.{none-some}
use Rattle.std.proofs.lemmas.Bool.{cases_lt, eqb-true, false≢true, lt-ltb}
use Rattle.reg_records.specs.Device.{counted_by}
use Rattle.reg_records.specs.Line.{is_line_feed}
use Rattle.reg_records.specs.Pieces.{HasNoLineFeed, Holds, Grows}
use Rattle.reg_records.specs.declared.pieces.LineBuffer.{LineBuffer}

-- what was taken has no LF, and the buffer stands for it
abbrev pub TakesPart : Option (List ℕ) → Option (List ℕ) → LineBuffer → Type 0
TakesPart old new buffer = (line : List ℕ) × HasNoLineFeed line × Holds buffer line × Consumes old new line

-- the place after more bytes of a line
pub place-more : (before mid after n : ℕ) (line bytes : List ℕ)
    → counted_by 0 mid ≡ counted_by (length line) before → after ≡ counted_by n mid
    → length bytes ≡ n → counted_by 0 after ≡ counted_by (length (line ++ bytes)) before
place-more before mid after n line bytes so_far moved len = omega (arith, so_far, moved, len, length-append line bytes)

-- and after its LF
pub place-ended : (before mid after n : ℕ) (line bytes : List ℕ)
    → counted_by 0 mid ≡ counted_by (length line) before → after ≡ counted_by n mid
    → length bytes + 1 ≡ n → counted_by 0 after ≡ counted_by (length ((line ++ bytes) ++ 10 ∷ [])) before
place-ended before mid after n line bytes so_far moved len =
    omega (arith, so_far, moved, len, length-append line bytes, length-append (line ++ bytes) (10 ∷ []))

abbrev pub TakesPart-more : (old mid new : Option (List ℕ)) (before after : LineBuffer) (line bytes : List ℕ)
    → HasNoLineFeed line → Holds before line → Consumes old mid line
    → HasNoLineFeed bytes → Consumes mid new bytes → Grows before after bytes → TakesPart old new after
TakesPart-more old mid new before after line bytes none held read none' read' grows = (
  line ++ bytes,
  All-append (λ b. is_line_feed b ≡ false) line bytes none none',
  grows line held,
  Consumes-trans old mid new line bytes read read',
)

abbrev pub TakesPart-kept : (old mid new : Option (List ℕ)) (before after : LineBuffer) (line : List ℕ)
    → HasNoLineFeed line → Holds before line → Consumes old mid line → Keeps mid new → after ≡ before → TakesPart old new after
TakesPart-kept old mid new before after line none held read kept same =
    (line, none, subst (λ b. Holds b line) (sym same) held, Consumes-kept old mid new line read kept)

pub Consumes-ended : (old mid new : Option (List ℕ)) (line bytes : List ℕ) → Consumes old mid line → Consumes mid new (bytes ++ 10 ∷ [])
    → Consumes old new ((line ++ bytes) ++ 10 ∷ [])
Consumes-ended old mid new line bytes read read' =
    subst (λ l. Consumes old new l) (sym (append_assoc line bytes (10 ∷ [])))
    (Consumes-trans old mid new line (bytes ++ 10 ∷ []) read read')

pub IsAtEnd-after : (old mid new : Option (List ℕ)) (line : List ℕ)
    → Consumes old mid line → IsAtEnd mid → Keeps mid new → OnSome old (IsAtEnd new)
IsAtEnd-after None mid new line read end kept = tt
IsAtEnd-after (Some x) None new line read end kept = absurd read
IsAtEnd-after (Some x) (Some y) None line read end kept = absurd kept
IsAtEnd-after (Some x) (Some y) (Some z) line read end kept = kept ∙ end

pub IsAtEnd-before : (a b : Option (List ℕ)) (line : List ℕ) → Consumes a b line → line ≡ [] → IsAtEnd b → IsAtEnd a
IsAtEnd-before None b line read none end = tt
IsAtEnd-before (Some x) None line read none end = absurd read
IsAtEnd-before (Some x) (Some y) line read none end = read ∙ ap (λ l. l ++ y) none ∙ end

pub Keeps-none_taken : (a b c : Option (List ℕ)) (line : List ℕ) → Consumes a b line → line ≡ [] → Keeps b c → Keeps a c
Keeps-none_taken None b c line read none kept = tt
Keeps-none_taken (Some x) None c line read none kept = absurd read
Keeps-none_taken (Some x) (Some y) None line read none kept = absurd kept
Keeps-none_taken (Some x) (Some y) (Some z) line read none kept = kept ∙ sym (read ∙ ap (λ l. l ++ y) none)

pub length-of_nonempty : (line : List ℕ) → (line ≡ [] → IsTrue false) → 0 < length line
length-of_nonempty [] h = absurd (false≢true (h refl))
length-of_nonempty (b ∷ line) h = omega arith

-- the first LF is after bytes without LF
pub before_line_feed : (bytes : List ℕ) (end : ℕ) → position is_line_feed bytes ≡ Some end
    → (end < length bytes) × HasNoLineFeed (take end bytes) × (take (end + 1) bytes ≡ take end bytes ++ 10 ∷ [])
before_line_feed bytes end e =
    let (within, at, before) = position-Some is_line_feed bytes end 0 e in (
      within,
      All-from_get_or (λ b. is_line_feed b ≡ false) (take end bytes) 0 (λ k h.
          let below : k < end = omega (arith, length-take end bytes, h) in
          rw (get_or-take end bytes k 0 below) (before k below)),
      take_more bytes end 0 within ∙ ap (λ b. take end bytes ++ b ∷ []) (eqb-true _ _ at),
    )

pub no_line_feed : (bytes : List ℕ) → position is_line_feed bytes ≡ None → HasNoLineFeed bytes
no_line_feed bytes e =
    let past : length bytes ≤ position_or_len is_line_feed bytes = unless_within _ _ e in
    λ k d h. fails_before_first is_line_feed bytes k d (omega arith)
  where
    unless_within : (n m : ℕ) → cond (nat_lt n m) (Some n) None ≡ None → m ≤ n
    unless_within n m none =
        elim (cases_lt n m) [
          | inl below ↦ absurd (none-some n (sym none ∙ ap (λ b. cond b (Some n) None) (lt-ltb n m below)))
          | inr past ↦ past
        ]

-- what stands before and after it
pub parts_at_line_feed : (bytes : List ℕ) (len : Option ℕ) → len ≡ position is_line_feed bytes
    → MatchOption len (HasNoLineFeed bytes)
    (λ n. (line : List ℕ) × (rest : List ℕ) × (bytes ≡ line ++ 10 ∷ rest) × HasNoLineFeed line × (n ≡ length line))
parts_at_line_feed bytes None is = no_line_feed bytes (sym is)
parts_at_line_feed bytes (Some end) is =
    let (within, none, ended) = before_line_feed bytes end (sym is) in
    let rest = drop (end + 1) bytes in (
      take end bytes,
      rest,
      sym (take-append-drop (end + 1) bytes) ∙ ap (λ l. l ++ rest) ended ∙ append_assoc (take end bytes) (10 ∷ []) rest,
      none,
      sym (length-take-le end bytes (omega (arith, within))),
    )
