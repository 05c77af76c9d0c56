-- How one line more is heard.
use Rattle.std.proofs.Common.{◌≡◌, ℕ, List, [], ◌∷◌, ◌++◌, Option, Some, None, Result, Ok, Err}
use Rattle.std.proofs.Common.{refl, sym, ap, subst, ◌∙◌, arith, length-append, append_assoc}
use Rattle.std.proofs.lemmas.List.Elements.{All-append, All-cons, All-nil}
use Rattle.std.specs.Result.{result_map_both}
use Rattle.reg_journal.specs.Lines.{text_of}
use Rattle.reg_records.specs.Device.{counted}
use Rattle.reg_records.specs.Pieces.{HasNoLineFeed}
use Rattle.reg_records.specs.declared.record.Read.{Read}
use Rattle.reg_adapter.specs.Heard.{Heard, heard_from, heard_with, nothing_heard, then_heard, with_part, with_word}
use Rattle.reg_adapter.specs.Messages.{HasTold}
use Rattle.reg_adapter.specs.Said.{part_in, word_in}
use Rattle.reg_adapter.specs.declared.fault.MessageFault.{MessageFault}
use Rattle.reg_adapter.specs.declared.line.Part.{Part}
use Rattle.reg_adapter.specs.declared.line.Word.{Word}
use Rattle.reg_adapter.specs.declared.told.AdapterMessage.{AdapterMessage}

last_line : (r n : Result Heard MessageFault) → r ≡ n → then_heard (λ next. heard_from next []) r ≡ n
last_line (Ok x) n is = is
last_line (Err f) n is = is

-- a line behind others
pub heard_more : (h : Heard) (lines : List (List ℕ)) (line : List ℕ) (m : Heard) (n : Result Heard MessageFault)
    → heard_from h lines ≡ Ok m → heard_with m.told m.begun line ≡ n → heard_from h (lines ++ line ∷ []) ≡ n
heard_more h [] line m n is next =
    let same : h ≡ m = cc in
    subst (λ (x : Heard). heard_from x (line ∷ []) ≡ n) (sym same) (last_line (heard_with m.told m.begun line) n next)
heard_more h (l ∷ lines) line m n is next =
    elim (heard_with h.told h.begun l) as (λ r. then_heard (λ x. heard_from x lines) r ≡ Ok m
    → then_heard (λ x. heard_from x (lines ++ line ∷ [])) r ≡ n) [
      | Ok x ↦ λ was. heard_more x lines line m n was next
      | Err f ↦ λ was. absurd (cc was)
    ] is

pub text_of-append : (lines more : List (List ℕ)) → text_of (lines ++ more) ≡ text_of lines ++ text_of more
text_of-append [] more = refl
text_of-append (line ∷ lines) more =
    ap (λ (l : List ℕ). line ++ 10 ∷ l) (text_of-append lines more) ∙ sym (append_assoc line (10 ∷ text_of lines) (text_of more))

-- the line behind others
behind : (text : List ℕ) (lines : List (List ℕ)) (bytes line rest : List ℕ) → text ≡ text_of lines ++ bytes → bytes ≡ line ++ 10 ∷ rest
    → text ≡ text_of (lines ++ line ∷ []) ++ rest
behind text lines bytes line rest parts is =
    parts
    ∙ ap (λ (l : List ℕ). text_of lines ++ l) (is ∙ sym (append_assoc line (10 ∷ []) rest))
    ∙ sym (append_assoc (text_of lines) (line ++ 10 ∷ []) rest)
    ∙ ap (λ (l : List ℕ). l ++ rest) (sym (text_of-append lines (line ∷ [])))

-- a line that was taken of what was left
pub taken : (text : List ℕ) (told : List AdapterMessage) (begun : Option (List Read)) (bytes : List ℕ) (count : ℕ) (line rest : List ℕ) (h : Heard)
    → HasTold text told begun bytes count → bytes ≡ line ++ 10 ∷ rest → HasNoLineFeed line → heard_with told begun line ≡ Ok h
    → HasTold text h.told h.begun rest (counted count)
taken text told begun bytes count line rest h has is free hears = record {
  lines = has.lines ++ line ∷ [];
  parts = behind text has.lines bytes line rest has.parts is;
  free = All-append HasNoLineFeed has.lines (line ∷ []) has.free (All-cons HasNoLineFeed line [] free (All-nil HasNoLineFeed));
  heard = heard_more nothing_heard has.lines line (record { told = told; begun = begun }) (Ok h) has.heard hears;
  counts = omega (arith, has.counts, length-append has.lines (line ∷ []));
}

-- bytes that came behind those that were left
pub more_came : (text : List ℕ) (told : List AdapterMessage) (begun : Option (List Read)) (bytes : List ℕ) (count : ℕ) (more : List ℕ)
    → HasTold text told begun bytes count → HasTold (text ++ more) told begun (bytes ++ more) count
more_came text told begun bytes count more has = record {
  lines = has.lines;
  parts = ap (λ (l : List ℕ). l ++ more) has.parts ∙ append_assoc (text_of has.lines) bytes more;
  free = has.free;
  heard = has.heard;
  counts = has.counts;
}

pub word_heard : (told : List AdapterMessage) (line : List ℕ) (word : Word) → word_in line ≡ Ok word
    → heard_with told None line ≡ Ok (with_word told word)
word_heard told line word is = ap (result_map_both (with_word told) (λ (fault : MessageFault). fault)) is

pub part_heard : (told : List AdapterMessage) (begun : List Read) (line : List ℕ) (part : Part) → part_in begun line ≡ Ok part
    → heard_with told (Some begun) line ≡ Ok (with_part told begun part)
part_heard told begun line part is = ap (result_map_both (with_part told begun) (λ (fault : MessageFault). fault)) is

pub word_fault : (line : List ℕ) (fault : MessageFault) → word_in line ≡ Err fault → heard_with [] None line ≡ Err fault
word_fault line fault is = ap (result_map_both (with_word []) (λ (fault : MessageFault). fault)) is

pub part_fault : (begun : List Read) (line : List ℕ) (fault : MessageFault) → part_in begun line ≡ Err fault
    → heard_with [] (Some begun) line ≡ Err fault
part_fault begun line fault is = ap (result_map_both (with_part [] begun) (λ (fault : MessageFault). fault)) is
