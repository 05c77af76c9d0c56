-- The lines of a text, whoever reads them.
use Rattle.std.proofs.Common.{◌≡◌, ◌⊎◌, inl, inr, ◌≤◌, ◌<◌, ◌-◌, ◌^◌, ℕ, true, false, cond, min, List, [], ◌∷◌, ◌++◌, length, Option, Some, None}
use Rattle.std.proofs.Common.{Result, Ok, Err, All, refl, sym, ap, subst, ◌∙◌, arith, append_assoc, true≢false}
use Rattle.std.proofs.lemmas.Bool.Decides.{nat_tests}
use Rattle.std.proofs.lemmas.List.{append-nil}
use Rattle.std.proofs.lemmas.List.Elements.{All-head, All-tail}
use Rattle.std.specs.Prelude.{nat_lt}
use Rattle.std.specs.Option.{option_map_or}
use Rattle.std.specs.Result.{result_map_both}
use mathlib.Core.List.{IsPrefix}
use Rattle.reg_journal.specs.Lines.{text_of}
use Rattle.reg_records.specs.Line.{is_line_feed, reading}
use Rattle.reg_records.specs.Pieces.{HasNoLineFeed}
use Rattle.reg_records.specs.declared.limits.TheConstants.{LINE_LIMIT}
use Rattle.reg_records.specs.declared.line.LineError.TheVariants.{TooLong}
use Rattle.reg_records.specs.declared.record.Read.{Read}
use Rattle.reg_adapter.proofs.Written.{heard-append}
use Rattle.reg_adapter.specs.Heard.{Heard, heard_from, heard_of, heard_with, nothing_heard, then_heard, with_part, with_word}
use Rattle.reg_adapter.specs.Laws.{FaultsAreFirst, TextsTellOnce}
use Rattle.reg_adapter.specs.Messages.{HasFaultAtFront}
use Rattle.reg_adapter.specs.Said.{line_in, part_in, word_in, word_of}
use Rattle.reg_adapter.specs.declared.fault.MessageFault.{MessageFault}
use Rattle.reg_adapter.specs.declared.fault.MessageFault.TheVariants as faults
use Rattle.reg_adapter.specs.declared.line.Part.{Part}
use Rattle.reg_adapter.specs.declared.line.Part.TheVariants as parts
use Rattle.reg_adapter.specs.declared.line.Word.{Word}
use Rattle.reg_adapter.specs.declared.line.Word.TheVariants as words
use Rattle.reg_adapter.specs.declared.told.AdapterMessage.{AdapterMessage}
use Rattle.reg_adapter.specs.declared.told.AdapterMessage.TheVariants as messages

abbrev IsFree : ℕ → Type 0
IsFree b = is_line_feed b ≡ false

-- a text with an LF has one
no_feed : (line rest : List ℕ) → HasNoLineFeed (line ++ 10 ∷ rest) → ⊥
no_feed [] rest free = true≢false (All-head IsFree 10 rest free)
no_feed (b ∷ line) rest free = no_feed line rest (All-tail IsFree b (line ++ 10 ∷ rest) free)

feed_first : (b : ℕ) (line : List ℕ) → HasNoLineFeed (b ∷ line) → b ≡ 10 → ⊥
feed_first b line free is = true≢false (sym (ap is_line_feed is) ∙ All-head IsFree b line free)

-- the first line of a text is one alone
same_front : (line other rest rest' : List ℕ) → HasNoLineFeed line → HasNoLineFeed other → line ++ 10 ∷ rest ≡ other ++ 10 ∷ rest'
    → (line ≡ other) × (rest ≡ rest')
same_front [] [] rest rest' free free' is = (refl, cc)
same_front [] (b ∷ other) rest rest' free free' is = let same : b ≡ 10 = cc in absurd (feed_first b other free' same)
same_front (b ∷ line) [] rest rest' free free' is = let same : b ≡ 10 = cc in absurd (feed_first b line free same)
same_front (b ∷ line) (b' ∷ other) rest rest' free free' is =
    let first : b ≡ b' = cc in
    let tails : line ++ 10 ∷ rest ≡ other ++ 10 ∷ rest' = cc in
    let both = same_front line other rest rest' (All-tail IsFree b line free) (All-tail IsFree b' other free') tails in
    let others : line ≡ other = both.0 in
    (cc, both.1)

-- bytes without an LF are of one line
within_line : (bytes more line rest : List ℕ) → HasNoLineFeed bytes → bytes ++ more ≡ line ++ 10 ∷ rest → length bytes ≤ length line
within_line [] more line rest free is = omega arith
within_line (b ∷ bytes) more [] rest free is = let same : b ≡ 10 = cc in absurd (feed_first b bytes free same)
within_line (b ∷ bytes) more (b' ∷ line) rest free is =
    let tails : bytes ++ more ≡ line ++ 10 ∷ rest = cc in
    omega (arith, within_line bytes more line rest (All-tail IsFree b bytes free) tails)

-- of two readers of a text one has read the other's lines, and maybe more
abbrev GoesOn : List (List ℕ) → List ℕ → List (List ℕ) → List ℕ → Type 0
GoesOn lines bytes lines' bytes' = (more : List (List ℕ)) × (lines' ≡ lines ++ more) × (bytes ≡ text_of more ++ bytes')

one_more : (line : List ℕ) (lines lines' : List (List ℕ)) (bytes bytes' : List ℕ) → GoesOn lines bytes lines' bytes'
    → GoesOn (line ∷ lines) bytes (line ∷ lines') bytes'
one_more line lines lines' bytes bytes' (more, is, rest) = (more, ap (λ (l : List (List ℕ)). line ∷ l) is, rest)

first_more : (line line' : List ℕ) (lines lines' : List (List ℕ)) (bytes bytes' : List ℕ) → line ≡ line'
    → GoesOn lines bytes lines' bytes' ⊎ GoesOn lines' bytes' lines bytes
    → GoesOn (line ∷ lines) bytes (line' ∷ lines') bytes' ⊎ GoesOn (line' ∷ lines') bytes' (line ∷ lines) bytes
first_more line line' lines lines' bytes bytes' same (inl on) =
    inl (subst (λ (l : List ℕ). GoesOn (line ∷ lines) bytes (l ∷ lines') bytes') same (one_more line lines lines' bytes bytes' on))
first_more line line' lines lines' bytes bytes' same (inr on) =
    inr (subst (λ (l : List ℕ). GoesOn (l ∷ lines') bytes' (line ∷ lines) bytes) same (one_more line lines' lines bytes' bytes on))

compared : (lines lines' : List (List ℕ)) (bytes bytes' : List ℕ) → All HasNoLineFeed lines → All HasNoLineFeed lines'
    → text_of lines ++ bytes ≡ text_of lines' ++ bytes' → GoesOn lines bytes lines' bytes' ⊎ GoesOn lines' bytes' lines bytes
compared [] lines' bytes bytes' free free' is = inl (lines', refl, is)
compared (line ∷ lines) [] bytes bytes' free free' is = inr (line ∷ lines, refl, sym is)
compared (line ∷ lines) (line' ∷ lines') bytes bytes' free free' is =
    let both = same_front line line' (text_of lines ++ bytes) (text_of lines' ++ bytes') (All-head HasNoLineFeed line lines free)
    (All-head HasNoLineFeed line' lines' free')
    (sym (append_assoc line (10 ∷ text_of lines) bytes) ∙ is ∙ append_assoc line' (10 ∷ text_of lines') bytes') in
    first_more line line' lines lines' bytes bytes' both.0
    (compared lines lines' bytes bytes' (All-tail HasNoLineFeed line lines free) (All-tail HasNoLineFeed line' lines' free') both.1)

-- bytes without an LF have no whole line
none_more : (more : List (List ℕ)) (bytes rest : List ℕ) → HasNoLineFeed bytes → bytes ≡ text_of more ++ rest → more ≡ []
none_more [] bytes rest free is = refl
none_more (line ∷ more) bytes rest free is =
    absurd (no_feed line (text_of more ++ rest) (subst HasNoLineFeed (is ∙ append_assoc line (10 ∷ text_of more) rest) free))

-- with the same lines all is the same
same_told : (told other : List AdapterMessage) (begun begun' : Option (List Read)) (lines lines' : List (List ℕ))
    → heard_of lines ≡ Ok (record { told = told; begun = begun }) → heard_of lines' ≡ Ok (record { told = other; begun = begun' })
    → lines' ≡ lines → (other ≡ told) × (begun' ≡ begun)
same_told told other begun begun' lines lines' is is' same =
    let both : ◌≡◌ {A = Result Heard MessageFault} (Ok (record { told = other; begun = begun' })) (Ok (record { told = told; begun = begun })) =
    sym is' ∙ ap heard_of same ∙ is in
    let heard : ◌≡◌ {A = Heard} (record { told = other; begun = begun' }) (record { told = told; begun = begun }) = cc in
    (ap (λ (h : Heard). h.told) heard, ap (λ (h : Heard). h.begun) heard)

no_more : (lines lines' more : List (List ℕ)) (bytes bytes' : List ℕ) → lines' ≡ lines ++ more → bytes ≡ text_of more ++ bytes' → more ≡ []
    → (lines' ≡ lines) × (bytes' ≡ bytes)
no_more lines lines' more bytes bytes' is rest none = (
  is ∙ ap (λ (l : List (List ℕ)). lines ++ l) none ∙ append-nil lines,
  sym (rest ∙ ap (λ (l : List (List ℕ)). text_of l ++ bytes') none),
)

no_more_of_either : (lines lines' : List (List ℕ)) (bytes bytes' : List ℕ) → HasNoLineFeed bytes → HasNoLineFeed bytes'
    → GoesOn lines bytes lines' bytes' ⊎ GoesOn lines' bytes' lines bytes → (lines' ≡ lines) × (bytes' ≡ bytes)
no_more_of_either lines lines' bytes bytes' free free' (inl (more, is, rest)) =
    no_more lines lines' more bytes bytes' is rest (none_more more bytes bytes' free rest)
no_more_of_either lines lines' bytes bytes' free free' (inr (more, is, rest)) =
    let back = no_more lines' lines more bytes' bytes is rest (none_more more bytes' bytes free' rest) in
    (sym back.0, sym back.1)

pub texts_tell_once : TextsTellOnce
texts_tell_once text told other begun begun' bytes bytes' count count' has free has' free' =
    let both : (has'.lines ≡ has.lines) × (bytes' ≡ bytes) =
    no_more_of_either has.lines has'.lines bytes bytes' free free'
    (compared has.lines has'.lines bytes bytes' has.free has'.free (sym has.parts ∙ has'.parts)) in
    let heard = same_told told other begun begun' has.lines has'.lines has.heard has'.heard both.0 in
    (heard.0, heard.1, both.1, omega (arith, has.counts, has'.counts, ap length both.0))

-- a line's fault is the same whatever was told before
fault_anywhere : (told told' : List AdapterMessage) (begun : Option (List Read)) (line : List ℕ) (fault : MessageFault)
    → heard_with told begun line ≡ Err fault → heard_with told' begun line ≡ Err fault
fault_anywhere told told' None line fault is =
    elim (word_in line) as (λ r. result_map_both (with_word told) (λ (f : MessageFault). f) r ≡ Err fault
    → result_map_both (with_word told') (λ (f : MessageFault). f) r ≡ Err fault) [
      | Ok word ↦ λ was. absurd (cc was)
      | Err f ↦ λ was. let same : f ≡ fault = cc in ap Err same
    ] is
fault_anywhere told told' (Some begun) line fault is =
    elim (part_in begun line) as (λ r. result_map_both (with_part told begun) (λ (f : MessageFault). f) r ≡ Err fault
    → result_map_both (with_part told' begun) (λ (f : MessageFault). f) r ≡ Err fault) [
      | Ok part ↦ λ was. absurd (cc was)
      | Err f ↦ λ was. let same : f ≡ fault = cc in ap Err same
    ] is

-- a line past its limit has that fault
long_word : (line : List ℕ) → LINE_LIMIT < length line → word_in line ≡ Err (faults.Line TooLong)
long_word line long =
    let past : nat_lt LINE_LIMIT (length line) ≡ true = grind (arith, nat_tests) in
    ap (λ t. cond t (Err (faults.Line TooLong)) (option_map_or Ok (word_of line) (Err faults.NoMessage))) past

long_line : (line : List ℕ) → LINE_LIMIT < length line → reading line ≡ Err TooLong
long_line line long =
    let past : nat_lt LINE_LIMIT (length line) ≡ true = grind (arith, nat_tests) in
    rw past

too_long : (told : List AdapterMessage) (begun : Option (List Read)) (line : List ℕ) → LINE_LIMIT < length line
    → heard_with told begun line ≡ Err (faults.Line TooLong)
too_long told None line long = ap (result_map_both (with_word told) (λ (f : MessageFault). f)) (long_word line long)
too_long told (Some begun) [] long = absurd (omega (arith, long))
too_long told (Some begun) (b ∷ line) long =
    ap (λ r. result_map_both (with_part told begun) (λ (f : MessageFault). f) (line_in begun r)) (long_line (b ∷ line) long)

-- what a fault at the front makes of a line that is whole later
faulty : (told : List AdapterMessage) (begun : Option (List Read)) (bytes more line rest : List ℕ) (fault : MessageFault) → HasFaultAtFront begun bytes fault
    → HasNoLineFeed line → bytes ++ more ≡ line ++ 10 ∷ rest → heard_with told begun line ≡ Err fault
faulty told begun bytes more line rest fault (inl (first, behind, parts, free, is)) free' whole =
    let both = same_front first line (behind ++ more) rest free free'
    (sym (append_assoc first (10 ∷ behind) more) ∙ ap (λ (l : List ℕ). l ++ more) (sym parts) ∙ whole) in
    ap (heard_with told begun) (sym both.0) ∙ fault_anywhere [] told begun first fault is
faulty told begun bytes more line rest fault (inr (free, long, is)) free' whole =
    let within = within_line bytes more line rest free whole in
    too_long told begun line (omega (arith, within, long)) ∙ ap Err (sym is)

-- a line that is heard has no fault
goes_on_not : (h m : Heard) (line : List ℕ) (lines : List (List ℕ)) (fault : MessageFault)
    → heard_with h.told h.begun line ≡ Err fault → heard_from h (line ∷ lines) ≡ Ok m → ⊥
goes_on_not h m line lines fault is heard =
    let none : ◌≡◌ {A = Result Heard MessageFault} (Err fault) (Ok m) =
    sym (ap (then_heard (λ (x : Heard). heard_from x lines)) is) ∙ heard in
    absurd (cc none)

same_fault : (begun : Option (List Read)) (bytes more : List ℕ) (fault fault' : MessageFault) → HasFaultAtFront begun bytes fault
    → HasFaultAtFront begun (bytes ++ more) fault' → fault' ≡ fault
same_fault begun bytes more fault fault' has (inl (line, rest, parts, free, is)) =
    let both : ◌≡◌ {A = Result Heard MessageFault} (Err fault') (Err fault) =
    sym is ∙ faulty [] begun bytes more line rest fault has free parts in
    cc
same_fault begun bytes more fault fault' (inl (line, rest, parts, free, is)) (inr (free', long, is')) =
    absurd (no_feed line (rest ++ more)
    (subst HasNoLineFeed (ap (λ (l : List ℕ). l ++ more) parts ∙ append_assoc line (10 ∷ rest) more) free'))
same_fault begun bytes more fault fault' (inr (free, long, is)) (inr (free', long', is')) = is' ∙ sym is

-- messages are added behind those before
with_word_grows : (told : List AdapterMessage) (word : Word) → IsPrefix told (with_word told word).told
with_word_grows told words.Batch = ([], append-nil told)
with_word_grows told (words.Answer answer) = (messages.Answer answer ∷ [], refl)
with_word_grows told words.Ready = (messages.Ready ∷ [], refl)

with_part_grows : (told : List AdapterMessage) (begun : List Read) (part : Part) → IsPrefix told (with_part told begun part).told
with_part_grows told begun (parts.Line read) = ([], append-nil told)
with_part_grows told begun parts.End = (messages.Batch begun ∷ [], refl)

grows : (told : List AdapterMessage) (begun : Option (List Read)) (line : List ℕ) (m : Heard) → heard_with told begun line ≡ Ok m → IsPrefix told m.told
grows told None line m is =
    elim (word_in line) as (λ r. result_map_both (with_word told) (λ (f : MessageFault). f) r ≡ Ok m → IsPrefix told m.told) [
      | Ok word ↦ λ was. let same : with_word told word ≡ m = cc in subst (λ (h : Heard). IsPrefix told h.told) same (with_word_grows told word)
      | Err f ↦ λ was. absurd (cc was)
    ] is
grows told (Some begun) line m is =
    elim (part_in begun line) as (λ r. result_map_both (with_part told begun) (λ (f : MessageFault). f) r ≡ Ok m → IsPrefix told m.told) [
      | Ok part ↦ λ was. let same : with_part told begun part ≡ m = cc in subst (λ (h : Heard). IsPrefix told h.told) same (with_part_grows told begun part)
      | Err f ↦ λ was. absurd (cc was)
    ] is

prefix_of_prefix : (a b c : List AdapterMessage) → IsPrefix a b → IsPrefix b c → IsPrefix a c
prefix_of_prefix a b c (s, is) (t, then) = (s ++ t, sym (append_assoc a s t) ∙ ap (λ (l : List AdapterMessage). l ++ t) is ∙ then)

pub told_grows : (h : Heard) (lines : List (List ℕ)) (m : Heard) → heard_from h lines ≡ Ok m → IsPrefix h.told m.told
told_grows h [] m is = let same : h ≡ m = cc in subst (λ (x : Heard). IsPrefix h.told x.told) same ([], append-nil h.told)
told_grows h (line ∷ lines) m is =
    elim (heard_with h.told h.begun line) as (λ r. heard_with h.told h.begun line ≡ r
    → then_heard (λ x. heard_from x lines) r ≡ Ok m → IsPrefix h.told m.told) [
      | Ok x ↦ λ first was. prefix_of_prefix h.told x.told m.told (grows h.told h.begun line x first) (told_grows x lines m was)
      | Err f ↦ λ first was. absurd (cc was)
    ] refl is

abbrev heard : List AdapterMessage → Option (List Read) → Heard
heard told begun = record { told = told; begun = begun }

-- where the lines are the same
at_fault : (told other : List AdapterMessage) (begun begun' : Option (List Read)) (bytes more bytes' : List ℕ) (count count' : ℕ)
    (lines lines' : List (List ℕ)) (fault : MessageFault)
    → heard_of lines ≡ Ok (heard told begun) → heard_of lines' ≡ Ok (heard other begun')
    → count ≡ min (length lines) (2 ^ 64 - 1) → count' ≡ min (length lines') (2 ^ 64 - 1)
    → lines' ≡ lines → bytes' ≡ bytes ++ more → HasFaultAtFront begun bytes fault
    → IsPrefix other told
    × ((fault' : MessageFault) → HasFaultAtFront begun' bytes' fault' → (other ≡ told) × (count' ≡ count) × (fault' ≡ fault))
at_fault told other begun begun' bytes more bytes' count count' lines lines' fault is is' counts counts' same rest has =
    let both = same_told told other begun begun' lines lines' is is' same in (
      subst (λ (l : List AdapterMessage). IsPrefix l told) (sym both.0) ([], append-nil told),
      λ fault' has'. (
        both.0,
        omega (arith, counts, counts', ap length same),
        same_fault begun bytes more fault fault' has
            (subst (λ (b : Option (List Read)). HasFaultAtFront b (bytes ++ more) fault') both.1
            (subst (λ (l : List ℕ). HasFaultAtFront begun' l fault') rest has')),
      ),
    )

All-behind : (front others : List (List ℕ)) → All HasNoLineFeed (front ++ others) → All HasNoLineFeed others
All-behind [] others all = all
All-behind (line ∷ front) others all = All-behind front others (All-tail HasNoLineFeed line (front ++ others) all)

free_behind : (lines lines' : List (List ℕ)) (line : List ℕ) (more : List (List ℕ)) → All HasNoLineFeed lines'
    → lines' ≡ lines ++ line ∷ more → HasNoLineFeed line
free_behind lines lines' line more free is =
    All-head HasNoLineFeed line more (All-behind lines (line ∷ more) (subst (All HasNoLineFeed) is free))

-- what is heard of the lines behind
heard_behind : (lines lines' more : List (List ℕ)) (h h' : Heard) → heard_of lines ≡ Ok h → heard_of lines' ≡ Ok h'
    → lines' ≡ lines ++ more → heard_from h more ≡ Ok h'
heard_behind lines lines' more h h' is is' parts =
    sym (heard-append nothing_heard lines more h is) ∙ ap heard_of (sym parts) ∙ is'

module _ (told other : List AdapterMessage) (begun begun' : Option (List Read)) (bytes more bytes' : List ℕ) (count count' : ℕ)
    (lines lines' : List (List ℕ)) (fault : MessageFault)
    (is : heard_of lines ≡ Ok (heard told begun)) (is' : heard_of lines' ≡ Ok (heard other begun'))
    (free : All HasNoLineFeed lines) (free' : All HasNoLineFeed lines')
    (counts : count ≡ min (length lines) (2 ^ 64 - 1)) (counts' : count' ≡ min (length lines') (2 ^ 64 - 1))
    (has : HasFaultAtFront begun bytes fault) where
  abbrev Ends : Type 0
  Ends = IsPrefix other told
      × ((fault' : MessageFault) → HasFaultAtFront begun' bytes' fault' → (other ≡ told) × (count' ≡ count) × (fault' ≡ fault))

  same_lines : lines' ≡ lines → bytes' ≡ bytes ++ more → Ends
  same_lines same rest =
      at_fault told other begun begun' bytes more bytes' count count' lines lines' fault is is' counts counts' same rest has

  -- the other reader has read more
  ahead : (next : List (List ℕ)) → lines' ≡ lines ++ next → bytes ++ more ≡ text_of next ++ bytes' → Ends
  ahead [] parts rest = same_lines (parts ∙ append-nil lines) (sym rest)
  ahead (line ∷ next) parts rest =
      absurd (goes_on_not (heard told begun) (heard other begun') line next fault
      (faulty told begun bytes more line (text_of next ++ bytes') fault has (free_behind lines lines' line next free' parts)
      (rest ∙ append_assoc line (10 ∷ text_of next) bytes'))
      (heard_behind lines lines' (line ∷ next) (heard told begun) (heard other begun') is is' parts))

  -- or less
  behind : (next : List (List ℕ)) → lines ≡ lines' ++ next → bytes' ≡ text_of next ++ (bytes ++ more) → Ends
  behind [] parts rest = same_lines (sym (parts ∙ append-nil lines')) rest
  behind (line ∷ next) parts rest =
      let goes = heard_behind lines' lines (line ∷ next) (heard other begun') (heard told begun) is' is parts in (
        told_grows (heard other begun') (line ∷ next) (heard told begun) goes,
        λ fault' at.
            absurd (goes_on_not (heard other begun') (heard told begun) line next fault'
            (faulty other begun' bytes' [] line (text_of next ++ (bytes ++ more)) fault' at (free_behind lines' lines line next free parts)
            (append-nil bytes' ∙ rest ∙ append_assoc line (10 ∷ text_of next) (bytes ++ more))) goes),
      )

  either : GoesOn lines (bytes ++ more) lines' bytes' ⊎ GoesOn lines' bytes' lines (bytes ++ more) → Ends
  either (inl (next, parts, rest)) = ahead next parts rest
  either (inr (next, parts, rest)) = behind next parts rest

pub faults_are_first : FaultsAreFirst
faults_are_first text more told other begun begun' bytes bytes' count count' fault has at has' =
    either told other begun begun' bytes more bytes' count count' has.lines has'.lines fault has.heard has'.heard has.free has'.free
    has.counts has'.counts at
    (compared has.lines has'.lines (bytes ++ more) bytes' has.free has'.free
    (sym (append_assoc (text_of has.lines) bytes more) ∙ ap (λ (l : List ℕ). l ++ more) (sym has.parts) ∙ has'.parts))
