-- Written messages are heard, and what is heard was written.
use Rattle.std.proofs.Common.{◌≡◌, ◌+◌, ℕ, suc, true, false, cond, List, [], ◌∷◌, ◌++◌, length, Option, Some, None, Ok, Err, All}
use Rattle.std.proofs.Common.{refl, sym, ap, subst, ◌∙◌, arith, append_assoc, length-append, eq-eqb}
use Rattle.std.proofs.lemmas.Bool.{eqb-true}
use Rattle.std.proofs.lemmas.List.{append-nil}
use Rattle.std.proofs.lemmas.List.Elements.{All-head, All-tail}
use Rattle.std.specs.Result.{result_map_both}
use Rattle.reg_journal.specs.Lines.{Say}
use Rattle.reg_records.specs.Line.{reading}
use Rattle.reg_records.specs.Log.{offset_in}
use Rattle.reg_records.specs.Pieces.{HasNoLineFeed}
use Rattle.reg_records.specs.declared.record.Read.{Read}
use Rattle.reg_adapter.proofs.Hearing.{part_heard, word_heard}
use Rattle.reg_adapter.proofs.Words.{word_in_is, word_text, word_text_in}
use Rattle.reg_adapter.specs.Heard.{Heard, heard_from, heard_of, heard_with, then_heard, with_part, with_word}
use Rattle.reg_adapter.specs.Said.{follows, line_in, part_in, word_in}
use Rattle.reg_adapter.specs.Transcript.{AreMessages, FollowFrom, IsBatch, IsMessage}
use Rattle.reg_adapter.specs.declared.fault.MessageFault.{MessageFault}
use Rattle.reg_adapter.specs.declared.fault.MessageFault.TheVariants as faults
use Rattle.reg_adapter.specs.declared.line.Part.TheVariants as parts
use Rattle.reg_adapter.specs.declared.line.Word.{Word}
use Rattle.reg_adapter.specs.declared.line.Word.TheVariants as words
use Rattle.reg_adapter.specs.declared.told.AdapterMessage.{AdapterMessage}
use Rattle.reg_adapter.specs.declared.told.AdapterMessage.TheVariants as messages

abbrev at : List AdapterMessage → Option (List Read) → Heard
at told begun = record { told = told; begun = begun }

pub heard-append : (h : Heard) (front others : List (List ℕ)) (m : Heard) → heard_from h front ≡ Ok m
    → heard_from h (front ++ others) ≡ heard_from m others
heard-append h [] others m is = let same : h ≡ m = cc in ap (λ (x : Heard). heard_from x others) same
heard-append h (line ∷ front) others m is =
    elim (heard_with h.told h.begun line) as (λ r. then_heard (λ x. heard_from x front) r ≡ Ok m
    → then_heard (λ x. heard_from x (front ++ others)) r ≡ heard_from m others) [
      | Ok x ↦ λ was. heard-append x front others m was
      | Err f ↦ λ was. absurd (cc was)
    ] is

-- one line that is heard, before others
heard_first : (told : List AdapterMessage) (begun : Option (List Read)) (line : List ℕ) (lines : List (List ℕ)) (m : Heard)
    → heard_with told begun line ≡ Ok m → heard_from (at told begun) (line ∷ lines) ≡ heard_from m lines
heard_first told begun line lines m is = ap (then_heard (λ (x : Heard). heard_from x lines)) is

-- these lines of a batch go on behind those
abbrev Go : List Read → List Read → Type 0
Go [] more = IsBatch more
Go (first ∷ begun) more = FollowFrom (offset_in first + length (first ∷ begun)) more

go_follows : (begun : List Read) (read : Read) (more : List Read) → Go begun (read ∷ more) → follows begun read ≡ true
go_follows [] read more go = refl
go_follows (first ∷ begun) read more go = eq-eqb (offset_in read) (offset_in first + length (first ∷ begun)) go.0

go_on : (begun : List Read) (read : Read) (more : List Read) → Go begun (read ∷ more) → Go (begun ++ read ∷ []) more
go_on [] read more go =
    let next : suc (offset_in read) ≡ offset_in read + length (read ∷ []) = omega arith in
    subst (λ (n : ℕ). FollowFrom n more) next go
go_on (first ∷ begun) read more go =
    let next : suc (offset_in first + length (first ∷ begun)) ≡ offset_in first + length (first ∷ (begun ++ read ∷ [])) =
    omega (arith, length-append begun (read ∷ [])) in
    subst (λ (n : ℕ). FollowFrom n more) next go.1

go_back : (begun : List Read) (read : Read) (more : List Read) → follows begun read ≡ true
    → Go (begun ++ read ∷ []) more → Go begun (read ∷ more)
go_back [] read more is go =
    let next : offset_in read + length (read ∷ []) ≡ suc (offset_in read) = omega arith in
    subst (λ (n : ℕ). FollowFrom n more) next go
go_back (first ∷ begun) read more is go =
    let next : offset_in first + length (first ∷ (begun ++ read ∷ [])) ≡ suc (offset_in first + length (first ∷ begun)) =
    omega (arith, length-append begun (read ∷ [])) in
    (eqb-true (offset_in read) (offset_in first + length (first ∷ begun)) is, subst (λ (n : ℕ). FollowFrom n more) next go)

-- a line of a batch, before others
line_heard : (told : List AdapterMessage) (begun : List Read) (b : ℕ) (line : List ℕ) (read : Read) (lines : List (List ℕ))
    → reading (b ∷ line) ≡ Ok read → follows begun read ≡ true
    → heard_from (at told (Some begun)) ((b ∷ line) ∷ lines) ≡ heard_from (at told (Some (begun ++ read ∷ []))) lines
line_heard told begun b line read lines reads is =
    let part : part_in begun (b ∷ line) ≡ Ok (parts.Line read) =
    ap (line_in begun) reads ∙ ap (λ t. cond t (Ok (parts.Line read)) (Err faults.Gap)) is in
    heard_first told (Some begun) (b ∷ line) lines (at told (Some (begun ++ read ∷ []))) (part_heard told begun (b ∷ line) (parts.Line read) part)

-- the lines of a batch, and the empty one behind them
lines_heard : (told : List AdapterMessage) (begun : List Read) (lines : List (List ℕ)) (reads : List Read) → Say lines reads → Go begun reads
    → heard_from (at told (Some begun)) (lines ++ [] ∷ []) ≡ Ok (at (told ++ messages.Batch (begun ++ reads) ∷ []) None)
lines_heard told [] [] [] say go = absurd go
lines_heard told (first ∷ begun) [] [] say go =
    ap (λ (l : List Read). Ok (at (told ++ messages.Batch l ∷ []) None)) (sym (append-nil (first ∷ begun)))
lines_heard told begun [] (read ∷ reads) say go = absurd say
lines_heard told begun (line ∷ lines) [] say go = absurd say
lines_heard told begun ([] ∷ lines) (read ∷ reads) say go = absurd (omega (arith, say.0))
lines_heard told begun ((b ∷ line) ∷ lines) (read ∷ reads) say go =
    line_heard told begun b line read (lines ++ [] ∷ []) say.2 (go_follows begun read reads go)
    ∙ lines_heard told (begun ++ read ∷ []) lines reads say.3 (go_on begun read reads go)
    ∙ ap (λ (l : List Read). Ok (at (told ++ messages.Batch l ∷ []) None)) (append_assoc begun (read ∷ []) reads)

-- a word, before others
text_heard : (told : List AdapterMessage) (word : Word) (lines : List (List ℕ))
    → heard_from (at told None) (word_text word ∷ lines) ≡ heard_from (with_word told word) lines
text_heard told word lines =
    heard_first told None (word_text word) lines (with_word told word) (word_heard told (word_text word) word (word_text_in word))

message_heard : (told : List AdapterMessage) (lines : List (List ℕ)) (next : AdapterMessage) → IsMessage lines next
    → heard_from (at told None) lines ≡ Ok (at (told ++ next ∷ []) None)
message_heard told lines (messages.Batch reads) (others, is, say, batch) =
    ap (heard_from (at told None)) is ∙ text_heard told words.Batch (others ++ [] ∷ []) ∙ lines_heard told [] others reads say batch
message_heard told lines (messages.Answer answer) is = ap (heard_from (at told None)) is ∙ text_heard told (words.Answer answer) []
message_heard told lines messages.Ready is = ap (heard_from (at told None)) is ∙ text_heard told words.Ready []

written_behind : (before : List AdapterMessage) (lines : List (List ℕ)) (told : List AdapterMessage) → AreMessages lines told
    → heard_from (at before None) lines ≡ Ok (at (before ++ told) None)
written_behind before lines [] is =
    ap (heard_from (at before None)) is ∙ ap (λ (l : List AdapterMessage). Ok (at l None)) (sym (append-nil before))
written_behind before lines (next ∷ more) (front, others, is, message, are) =
    ap (heard_from (at before None)) is
    ∙ heard-append (at before None) front others (at (before ++ next ∷ []) None) (message_heard before front next message)
    ∙ written_behind (before ++ next ∷ []) others more are
    ∙ ap (λ (l : List AdapterMessage). Ok (at l None)) (append_assoc before (next ∷ []) more)

-- written messages are heard
pub written_are_heard : (lines : List (List ℕ)) (told : List AdapterMessage) → AreMessages lines told → heard_of lines ≡ Ok (at told None)
written_are_heard lines told are = written_behind [] lines told are

-- what was written, by what was begun before
abbrev Wrote : List (List ℕ) → List AdapterMessage → Option (List Read) → List AdapterMessage → Type 0
Wrote lines before None final = (told : List AdapterMessage) × (final ≡ before ++ told) × AreMessages lines told
Wrote lines before (Some begun) final =
    (front : List (List ℕ)) × (others : List (List ℕ)) × (reads : List Read) × (told : List AdapterMessage)
    × (lines ≡ front ++ [] ∷ others) × Say front reads × Go begun reads
    × (final ≡ before ++ messages.Batch (begun ++ reads) ∷ told) × AreMessages others told

-- a message by itself
wrote_word : (line : List ℕ) (lines : List (List ℕ)) (before final : List AdapterMessage) (next : AdapterMessage) → IsMessage (line ∷ []) next
    → Wrote lines (before ++ next ∷ []) None final → Wrote (line ∷ lines) before None final
wrote_word line lines before final next is (told, ends, are) =
    (next ∷ told, ends ∙ append_assoc before (next ∷ []) told, (line ∷ [], lines, refl, is, are))

wrote_by_word : (line : List ℕ) (lines : List (List ℕ)) (before final : List AdapterMessage) (word : Word) → line ≡ word_text word
    → ((h : Heard) → h ≡ with_word before word → Wrote lines h.told h.begun final) → Wrote (line ∷ lines) before None final
wrote_by_word line lines before final words.Batch is rec =
    let (front, others, reads, told, parts, say, go, ends, are) = rec (at before (Some [])) refl in (
      messages.Batch reads ∷ told,
      ends,
      (
        line ∷ (front ++ [] ∷ []),
        others,
        ap (λ (l : List (List ℕ)). line ∷ l) (parts ∙ sym (append_assoc front ([] ∷ []) others)),
        (front, ap (λ (l : List ℕ). l ∷ (front ++ [] ∷ [])) is, say, go),
        are,
      ),
    )
wrote_by_word line lines before final (words.Answer answer) is rec =
    wrote_word line lines before final (messages.Answer answer) (ap (λ (l : List ℕ). l ∷ []) is)
    (rec (at (before ++ messages.Answer answer ∷ []) None) refl)
wrote_by_word line lines before final words.Ready is rec =
    wrote_word line lines before final messages.Ready (ap (λ (l : List ℕ). l ∷ []) is) (rec (at (before ++ messages.Ready ∷ []) None) refl)

-- a line of a batch
wrote_line : (b : ℕ) (line : List ℕ) (lines : List (List ℕ)) (before : List AdapterMessage) (begun : List Read) (final : List AdapterMessage) (read : Read)
    → HasNoLineFeed (b ∷ line) → reading (b ∷ line) ≡ Ok read → follows begun read ≡ true
    → Wrote lines before (Some (begun ++ read ∷ [])) final → Wrote ((b ∷ line) ∷ lines) before (Some begun) final
wrote_line b line lines before begun final read free says follow (front, others, reads, told, parts, say, go, ends, are) = (
  (b ∷ line) ∷ front,
  others,
  read ∷ reads,
  told,
  ap (λ (l : List (List ℕ)). (b ∷ line) ∷ l) parts,
  (omega arith, free, says, say),
  go_back begun read reads follow go,
  ends ∙ ap (λ (l : List Read). before ++ messages.Batch l ∷ told) (append_assoc begun (read ∷ []) reads),
  are,
)

-- the end of a batch
wrote_end : (lines : List (List ℕ)) (before : List AdapterMessage) (first : Read) (begun : List Read) (final : List AdapterMessage)
    → Wrote lines (before ++ messages.Batch (first ∷ begun) ∷ []) None final → Wrote ([] ∷ lines) before (Some (first ∷ begun)) final
wrote_end lines before first begun final (told, ends, are) = (
  [],
  lines,
  [],
  told,
  refl,
  tt,
  tt,
  ends
      ∙ append_assoc before (messages.Batch (first ∷ begun) ∷ []) told
      ∙ ap (λ (l : List Read). before ++ messages.Batch l ∷ told) (sym (append-nil (first ∷ begun))),
  are,
)

wrote : (lines : List (List ℕ)) (before : List AdapterMessage) (begun : Option (List Read)) (final : List AdapterMessage) → All HasNoLineFeed lines
    → heard_from (at before begun) lines ≡ Ok (at final None) → Wrote lines before begun final
wrote [] before None final free is =
    let same : at before None ≡ at final None = cc in
    ([], ap (λ (h : Heard). h.told) (sym same) ∙ sym (append-nil before), refl)
wrote [] before (Some begun) final free is =
    let same : at before (Some begun) ≡ at final None = cc in
    let none : ◌≡◌ {A = Option (List Read)} (Some begun) None = ap (λ (h : Heard). h.begun) same in
    absurd (cc none)
wrote (line ∷ lines) before None final free is =
    elim (word_in line) as (λ w. word_in line ≡ w
    → then_heard (λ x. heard_from x lines) (result_map_both (with_word before) (λ (fault : MessageFault). fault) w) ≡ Ok (at final None)
    → Wrote (line ∷ lines) before None final) [
      | Ok word ↦ λ says was.
          wrote_by_word line lines before final word (word_in_is line word says)
          (λ h same. wrote lines h.told h.begun final (All-tail HasNoLineFeed line lines free)
          (ap (λ (x : Heard). heard_from x lines) same ∙ was))
      | Err f ↦ λ says was. absurd (cc was)
    ] refl is
wrote ([] ∷ lines) before (Some []) final free is = absurd (cc is)
wrote ([] ∷ lines) before (Some (first ∷ begun)) final free is =
    wrote_end lines before first begun final
    (wrote lines (before ++ messages.Batch (first ∷ begun) ∷ []) None final (All-tail HasNoLineFeed [] lines free) is)
wrote ((b ∷ line) ∷ lines) before (Some begun) final free is =
    elim (reading (b ∷ line)) as (λ r. reading (b ∷ line) ≡ r
    → then_heard (λ x. heard_from x lines) (result_map_both (with_part before begun) (λ (fault : MessageFault). fault) (line_in begun r))
    ≡ Ok (at final None) → Wrote ((b ∷ line) ∷ lines) before (Some begun) final) [
      | Ok read ↦ λ says.
          elim (follows begun read) as (λ t. follows begun read ≡ t
          → then_heard (λ x. heard_from x lines) (result_map_both (with_part before begun) (λ (fault : MessageFault). fault)
          (cond t (Ok (parts.Line read)) (Err faults.Gap))) ≡ Ok (at final None) → Wrote ((b ∷ line) ∷ lines) before (Some begun) final) [
            | true ↦ λ follow was.
                wrote_line b line lines before begun final read (All-head HasNoLineFeed (b ∷ line) lines free) says follow
                (wrote lines before (Some (begun ++ read ∷ [])) final (All-tail HasNoLineFeed (b ∷ line) lines free) was)
            | false ↦ λ follow was. absurd (cc was)
          ] refl
      | Err f ↦ λ says was. absurd (cc was)
    ] refl is

-- what is heard was written
pub heard_were_written : (lines : List (List ℕ)) (told : List AdapterMessage) → All HasNoLineFeed lines
    → heard_of lines ≡ Ok (at told None) → AreMessages lines told
heard_were_written lines told free is =
    let (found, ends, are) = wrote lines [] None told free is in
    subst (λ (l : List AdapterMessage). AreMessages lines l) (sym ends) are
