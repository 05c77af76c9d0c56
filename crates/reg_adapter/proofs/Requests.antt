-- What the lines of a request say.
use Rattle.std.proofs.Common.{◌≡◌, ◌<◌, ◌≤◌, ◌+◌, ◌++◌, ◌∷◌, ℕ, Bool, not, true, false, List, [], All, length, take, get_or, codes, decimal, unwrap_or}
use Rattle.std.proofs.Common.{Option, Some, None, Ok, Err, refl, sym, ap, subst, subst₂, ◌∙◌, true≢false, arith, append_assoc, length-append}
use Rattle.std.specs.Option.{ForSome, option_map_or}
use Rattle.std.proofs.Math.Seq.{take-append_seam}
use Rattle.std.proofs.lemmas.Bool.{and_parts}
use Rattle.std.proofs.lemmas.List.{map-append, take_more}
use Rattle.std.proofs.lemmas.List.Elements.{All-cons, All-get_or, All-nil, All-push}
use Rattle.reg_journal.specs.Lines.{Say, batch_lines, batch_reads, text_of}
use Rattle.reg_records.proofs.Controls.{are_shown-decimal, is_free_of-are_shown}
use Rattle.reg_records.proofs.Fields.{is_free_of-append, position-seam}
use Rattle.reg_records.proofs.Shown.{are_shown-written_key}
use Rattle.reg_records.specs.Line.{is_free_of, is_line_feed, reading, reading_at_front}
use Rattle.reg_records.specs.Pieces.{HasNoLineFeed}
use Rattle.reg_records.specs.Written.{HasLine, IsValueField, line_text, written_key}
use Rattle.reg_records.specs.declared.limits.TheConstants.{LINE_LIMIT}
use Rattle.reg_records.specs.declared.line.LineError.TheVariants.{Truncated}
use Rattle.reg_records.specs.declared.record.Read.{Read}
use Rattle.reg_records.specs.declared.record.Read.TheVariants as reads
use Rattle.reg_records.specs.declared.record.Record.{Record}
use Rattle.reg_adapter.proofs.Hearing.{text_of-append}

field_is_free : (value : Option (List ℕ)) → ForSome value IsValueField → is_free_of is_line_feed (unwrap_or value (codes "null")) ≡ true
field_is_free None h = refl
field_is_free (Some text) h = (h text refl).1

one_line : (r : Record) → HasLine r → is_free_of is_line_feed (line_text r) ≡ true
one_line r h =
    let offset = is_free_of-are_shown 10 (omega arith) (decimal r.offset) (are_shown-decimal r.offset (omega (arith, h.offset_fits))) in
    let key = is_free_of-are_shown 10 (omega arith) (written_key r.key) (are_shown-written_key r.key h.key_fits) in
    is_free_of-append is_line_feed (decimal r.offset) _ offset
    (is_free_of-append is_line_feed (written_key r.key) _ key (field_is_free r.value h.value_fits))

not_true-false : (b : Bool) → not b ≡ true → b ≡ false
not_true-false true h = absurd (true≢false (sym h))
not_true-false false h = refl

none_from_free : (text : List ℕ) → is_free_of is_line_feed text ≡ true → HasNoLineFeed text
none_from_free [] h = All-nil (λ b. is_line_feed b ≡ false)
none_from_free (b ∷ text) h =
    let p = and_parts _ _ h in
    All-cons (λ x. is_line_feed x ≡ false) b text (not_true-false (is_line_feed b) p.0) (none_from_free text p.1)

-- a written line says its record
abbrev pub ReadsBack : Record → Type 0
ReadsBack r = (rest : List ℕ) → reading_at_front ((line_text r ++ 10 ∷ []) ++ rest) ≡ Ok (reads.Record r)

reading_line : (r : Record) → HasLine r → ReadsBack r → reading (line_text r) ≡ Ok (reads.Record r)
reading_line r h back =
    sym (ap reading_at_front (append_assoc (line_text r) (10 ∷ []) [])
    ∙ ap (λ found. option_map_or (λ n. reading (take n (line_text r ++ 10 ∷ []))) found (Err Truncated))
    (position-seam (line_text r) [] (one_line r h))
    ∙ ap reading (take-append_seam (line_text r) (10 ∷ [])))
    ∙ back []

some_bytes : (r : Record) → 0 < length (line_text r)
some_bytes r = omega (arith, length-append (decimal r.offset) (9 ∷ (written_key r.key ++ 9 ∷ unwrap_or r.value (codes "null"))))

says_one : (r : Record) → HasLine r → ReadsBack r → Say (batch_lines (r ∷ [])) (batch_reads (r ∷ []))
says_one r h back = (some_bytes r, none_from_free (line_text r) (one_line r h), reading_line r h back, tt)

Say-append : (lines more : List (List ℕ)) (read next : List Read) → Say lines read → Say more next → Say (lines ++ more) (read ++ next)
Say-append [] more [] next say then = then
Say-append [] more (r ∷ read) next say then = absurd say
Say-append (line ∷ lines) more [] next say then = absurd say
Say-append (line ∷ lines) more (r ∷ read) next say then = (say.0, say.1, say.2, Say-append lines more read next say.3 then)

-- one record more
more_taken : (batch : List Record) (i : ℕ) (r : Record) → i < length batch → r ≡ get_or batch i r → take (i + 1) batch ≡ take i batch ++ r ∷ []
more_taken batch i r below is = take_more batch i r below ∙ ap (λ x. take i batch ++ x ∷ []) (sym is)

pub text_more : (batch : List Record) (i : ℕ) (r : Record) → i < length batch → r ≡ get_or batch i r
    → text_of (batch_lines (take (i + 1) batch)) ≡ text_of (batch_lines (take i batch)) ++ (line_text r ++ 10 ∷ [])
text_more batch i r below is =
    ap (λ (b : List Record). text_of (batch_lines b)) (more_taken batch i r below is)
    ∙ ap text_of (map-append line_text (take i batch) (r ∷ []))
    ∙ text_of-append (batch_lines (take i batch)) (batch_lines (r ∷ []))

pub say_more : (batch : List Record) (i : ℕ) (r : Record) → i < length batch → r ≡ get_or batch i r → All HasLine batch → ReadsBack r
    → Say (batch_lines (take i batch)) (batch_reads (take i batch))
    → Say (batch_lines (take (i + 1) batch)) (batch_reads (take (i + 1) batch))
say_more batch i r below is have back say =
    let h : HasLine r = subst HasLine (sym is) (All-get_or HasLine batch i r below have) in
    let both = Say-append (batch_lines (take i batch)) (batch_lines (r ∷ []))
    (batch_reads (take i batch)) (batch_reads (r ∷ [])) say (says_one r h back) in
    subst (λ (b : List Record). Say (batch_lines b) (batch_reads b)) (sym (more_taken batch i r below is))
    (subst₂ Say (sym (map-append line_text (take i batch) (r ∷ []))) (sym (map-append reads.Record (take i batch) (r ∷ []))) both)

pub short_more : (batch : List Record) (i : ℕ) (r : Record) → i < length batch → r ≡ get_or batch i r
    → length (line_text r) ≤ LINE_LIMIT → All (λ r. length (line_text r) ≤ LINE_LIMIT) (take i batch)
    → All (λ r. length (line_text r) ≤ LINE_LIMIT) (take (i + 1) batch)
short_more batch i r below is fits short =
    subst (λ (b : List Record). All (λ r. length (line_text r) ≤ LINE_LIMIT) b) (sym (more_taken batch i r below is))
    (All-push (λ r. length (line_text r) ≤ LINE_LIMIT) (take i batch) r short fits)
