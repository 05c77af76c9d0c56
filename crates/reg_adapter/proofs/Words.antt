-- The words of messages.
use Rattle.std.proofs.Common.{◌≡◌, ℕ, true, false, cond, List, Option, Some, None, Result, Ok, Err, codes, bytes_eq, length, refl, subst}
use Rattle.std.proofs.lemmas.Slice.Eq.{bytes_eq-Decides}
use Rattle.std.specs.Prelude.{⊤, nat_lt}
use Rattle.std.specs.Option.{option_map_or}
use Rattle.reg_records.specs.declared.limits.TheConstants.{LINE_LIMIT}
use Rattle.reg_records.specs.declared.line.LineError.TheVariants.{TooLong}
use Rattle.reg_adapter.specs.Said.{word_in, word_of}
use Rattle.reg_adapter.specs.Transcript.{answer_word}
use Rattle.reg_adapter.specs.declared.fault.MessageFault.{MessageFault}
use Rattle.reg_adapter.specs.declared.fault.MessageFault.TheVariants as faults
use Rattle.reg_adapter.specs.declared.line.Word.{Word}
use Rattle.reg_adapter.specs.declared.line.Word.TheVariants.{Batch, Answer, Ready}
use Rattle.reg_adapter.specs.declared.told.AdapterAnswer.TheVariants.{Kept, Behind, Declined, Lost}

-- the text of a word
abbrev pub word_text : Word → List ℕ
word_text Batch = codes "batch"
word_text (Answer answer) = answer_word answer
word_text Ready = codes "ready"

abbrev WordIs : List ℕ → Option Word → Type 0
WordIs line (Some word) = line ≡ word_text word
WordIs line None = ⊤

pick : (line text : List ℕ) (word : Word) (others : Option Word) → text ≡ word_text word
    → WordIs line others → WordIs line (cond (bytes_eq line text) (Some word) others)
pick line text word others same rest =
    elim (bytes_eq line text) as (λ t. bytes_eq line text ≡ t → WordIs line (cond t (Some word) others)) [
      | true ↦ λ is. subst (λ (l : List ℕ). line ≡ l) same ((bytes_eq-Decides line text).0 is)
      | false ↦ λ is. rest
    ] refl

each_word : (line : List ℕ) → WordIs line (word_of line)
unfolding word_of
each_word line =
    pick line (codes "batch") Batch _ refl
    (pick line (codes "kept") (Answer Kept) _ refl
    (pick line (codes "behind") (Answer Behind) _ refl
    (pick line (codes "declined") (Answer Declined) _ refl
    (pick line (codes "lost") (Answer Lost) _ refl
    (pick line (codes "ready") Ready _ refl tt)))))

word_of_or : (line : List ℕ) (found : Option Word) (word : Word) → WordIs line found
    → option_map_or {U = Result Word MessageFault} Ok found (Err faults.NoMessage) ≡ Ok word → line ≡ word_text word
word_of_or line (Some x) word says is = let same : x ≡ word = cc in subst (λ (w : Word). line ≡ word_text w) same says
word_of_or line None word says is = absurd (cc is)

-- a line that says a word is its text
pub word_in_is : (line : List ℕ) (word : Word) → word_in line ≡ Ok word → line ≡ word_text word
word_in_is line word is =
    elim (nat_lt LINE_LIMIT (length line)) as (λ t.
    cond t (Err (faults.Line TooLong)) (option_map_or Ok (word_of line) (Err faults.NoMessage)) ≡ Ok word → line ≡ word_text word) [
      | true ↦ λ was. absurd (cc was)
      | false ↦ λ was. word_of_or line (word_of line) word (each_word line) was
    ] is

-- the text of a word says it
pub word_text_in : (word : Word) → word_in (word_text word) ≡ Ok word
unfolding word_of
word_text_in Batch = refl
word_text_in (Answer Kept) = refl
word_text_in (Answer Behind) = refl
word_text_in (Answer Declined) = refl
word_text_in (Answer Lost) = refl
word_text_in Ready = refl

-- the words by their tests
pub of_batch : (line : List ℕ) → bytes_eq line (codes "batch") ≡ true → Some Batch ≡ word_of line
unfolding word_of
of_batch line is = rw is

pub of_kept : (line : List ℕ) → bytes_eq line (codes "batch") ≡ false → bytes_eq line (codes "kept") ≡ true
    → Some (Answer Kept) ≡ word_of line
unfolding word_of
of_kept line a is = rw (a, is)

pub of_behind : (line : List ℕ) → bytes_eq line (codes "batch") ≡ false → bytes_eq line (codes "kept") ≡ false
    → bytes_eq line (codes "behind") ≡ true → Some (Answer Behind) ≡ word_of line
unfolding word_of
of_behind line a b is = rw (a, b, is)

pub of_declined : (line : List ℕ) → bytes_eq line (codes "batch") ≡ false → bytes_eq line (codes "kept") ≡ false
    → bytes_eq line (codes "behind") ≡ false → bytes_eq line (codes "declined") ≡ true → Some (Answer Declined) ≡ word_of line
unfolding word_of
of_declined line a b d is = rw (a, b, d, is)

pub of_lost : (line : List ℕ) → bytes_eq line (codes "batch") ≡ false → bytes_eq line (codes "kept") ≡ false
    → bytes_eq line (codes "behind") ≡ false → bytes_eq line (codes "declined") ≡ false → bytes_eq line (codes "lost") ≡ true
    → Some (Answer Lost) ≡ word_of line
unfolding word_of
of_lost line a b d e is = rw (a, b, d, e, is)

pub of_ready : (line : List ℕ) → bytes_eq line (codes "batch") ≡ false → bytes_eq line (codes "kept") ≡ false
    → bytes_eq line (codes "behind") ≡ false → bytes_eq line (codes "declined") ≡ false → bytes_eq line (codes "lost") ≡ false
    → bytes_eq line (codes "ready") ≡ true → Some Ready ≡ word_of line
unfolding word_of
of_ready line a b d e f is = rw (a, b, d, e, f, is)

pub of_none : (line : List ℕ) → bytes_eq line (codes "batch") ≡ false → bytes_eq line (codes "kept") ≡ false
    → bytes_eq line (codes "behind") ≡ false → bytes_eq line (codes "declined") ≡ false → bytes_eq line (codes "lost") ≡ false
    → bytes_eq line (codes "ready") ≡ false → None ≡ word_of line
unfolding word_of
of_none line a b d e f is = rw (a, b, d, e, f, is)
