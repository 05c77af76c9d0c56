-- The line that is written for a record reads as that record.
use Rattle.std.proofs.Common.{◌≡◌, ℕ, ◌≤◌, true, List, [], ◌∷◌, ◌++◌, length, take, cond, bytes_eq, decimal, codes}
use Rattle.std.proofs.Common.{unwrap_or, Option, Some, None, Ok, Err, refl, ap, ◌∙◌, arith, append_assoc}
use Rattle.std.specs.Option.{ForSome, option_map_or}
use Rattle.std.specs.Str.{is_utf8}
use Rattle.std.proofs.Math.Seq.{take-append_seam}
use Rattle.reg_records.specs.declared.limits.TheConstants.{LINE_LIMIT}
use Rattle.reg_records.specs.declared.line.LineError.TheVariants.{Truncated}
use Rattle.reg_records.specs.declared.record.Record.{Record}
use Rattle.reg_records.specs.declared.record.Read.TheVariants as reads
use Rattle.reg_records.specs.Line.{is_tab, is_line_feed, is_free_of, reading, reading_at_front}
use Rattle.reg_records.specs.Written.{written_key, IsValueField, HasLine, line_text}
use Rattle.reg_records.proofs.Controls.{are_shown-decimal, is_free_of-are_shown}
use Rattle.reg_records.proofs.Fields.{is_free_of-append, position-seam}
use Rattle.reg_records.proofs.Grammar.{reading-IsLine}
use Rattle.reg_records.proofs.ReadsBack.{key_of-written_key}
use Rattle.reg_records.proofs.Shown.{are_shown-written_key}

-- the value field of a record: it has no TAB and no LF, and gives the value again
field_is_free : (value : Option (List ℕ)) → ForSome value IsValueField
    → (is_free_of is_tab (unwrap_or value (codes "null")) ≡ true) × (is_free_of is_line_feed (unwrap_or value (codes "null")) ≡ true)
field_is_free None h = (refl, refl)
field_is_free (Some text) h = let field = h text refl in (field.0, field.1)

value_again : (value : Option (List ℕ)) → ForSome value IsValueField
    → cond (bytes_eq (unwrap_or value (codes "null")) (codes "null")) None (Some (unwrap_or value (codes "null"))) ≡ value
value_again None h = refl
value_again (Some text) h = let field = h text refl in rw field.2

reading-line_text : (r : Record) → HasLine r → is_utf8 (line_text r) ≡ true
    → length (line_text r) ≤ LINE_LIMIT → reading (line_text r) ≡ Ok (reads.Record r)
reading-line_text r h utf8 fits =
    let value = unwrap_or r.value (codes "null") in
    let key = is_free_of-are_shown 9 (omega arith) (written_key r.key) (are_shown-written_key r.key h.key_fits) in
    reading-IsLine (line_text r) r.offset (written_key r.key) value
    (record {
      fields = refl;
      offset_fits = h.offset_fits;
      key_has_no_tab = key;
      value_has_no_tab = (field_is_free r.value h.value_fits).0;
      utf8 = utf8;
      fits = fits;
    })
    ∙ rw (key_of-written_key r.key h.key_fits, value_again r.value h.value_fits)

one_line : (r : Record) → HasLine r → is_free_of is_line_feed (line_text r) ≡ true
one_line r h =
    let offset = is_free_of-are_shown 10 (omega arith) (decimal r.offset) (are_shown-decimal r.offset (omega (arith, h.offset_fits))) in
    let key = is_free_of-are_shown 10 (omega arith) (written_key r.key) (are_shown-written_key r.key h.key_fits) in
    is_free_of-append is_line_feed (decimal r.offset) _ offset
    (is_free_of-append is_line_feed (written_key r.key) _ key (field_is_free r.value h.value_fits).1)

pub reading_at_front-written_line : (r : Record) → HasLine r
    → is_utf8 (line_text r) ≡ true → length (line_text r) ≤ LINE_LIMIT → (rest : List ℕ)
    → reading_at_front ((line_text r ++ 10 ∷ []) ++ rest) ≡ Ok (reads.Record r)
reading_at_front-written_line r h utf8 fits rest =
    ap reading_at_front (append_assoc (line_text r) (10 ∷ []) rest)
    ∙ ap (λ found. option_map_or (λ n. reading (take n (line_text r ++ 10 ∷ rest))) found (Err Truncated))
    (position-seam (line_text r) rest (one_line r h))
    ∙ ap reading (take-append_seam (line_text r) (10 ∷ rest))
    ∙ reading-line_text r h utf8 fits
