-- The reading of a line is that of the grammar.
use Rattle.std.proofs.Common.{◌≡◌, ℕ, zero, suc, ◌≤◌, ◌<◌, ◌^◌, ◌==◌, Bool, true, false, cond, not, ◌&&◌, List, length, get_or}
use Rattle.std.proofs.Common.{nat_lt, decimal, Option, Some, None, Result, Ok, Err, refl, sym, ap, ◌∙◌, arith, rules, eq-eqb}
use Rattle.std.specs.Option.{option_map_or}
use Rattle.std.specs.Char.{is_ascii_digit}
use Rattle.std.specs.List.{list_all, slice_split}
use Rattle.std.specs.Prelude.{count_by}
use Rattle.std.specs.Str.Parse.{digits_value}
use Rattle.std.proofs.lemmas.Bool.{and_parts, and_from, and_right, not_from_false, ne_eqb}
use Rattle.std.proofs.lemmas.Bool.{eqb-true, eqb-false, le-leb, leb-true, le-ltb, ltb-false}
use Rattle.std.proofs.lemmas.Fmt.{decimal_digit, decimal_nonempty, first_decimal}
use Rattle.std.proofs.lemmas.Fmt.{digits_decimal}
use Rattle.std.proofs.lemmas.Fmt.{digits_value-decimal, decimal-digits_value}
use Rattle.std.proofs.lemmas.Str.Parse.{IsNumeralModel, numerals_by_value}
use Rattle.reg_records.specs.declared.line.LineError.{LineError}
use Rattle.reg_records.specs.declared.line.LineError.TheVariants.{BadOffset, BadTabs}
use Rattle.reg_records.specs.declared.limits.TheConstants.{OFFSET_LIMIT, LINE_LIMIT}
use Rattle.reg_records.specs.declared.record.Read.{Read}
use Rattle.reg_records.specs.Line.{is_tab, is_decimal, offset_of, read_at, reading_of, reading, line_of, IsLine, Spells}
use Rattle.reg_records.proofs.Fields.{offset_field, key_field, value_field}
use Rattle.reg_records.proofs.Fields.{slice_split-line_of, slice_split-fields}
use Rattle.reg_records.proofs.Fields.{reading_of-bad_tabs, has_fields}
use Rattle.reg_records.proofs.Controls.{are_shown-decimal, is_free_of-are_shown}

own : IsNumeralModel (λ ds. list_all is_ascii_digit ds ≡ true) (digits_value 10)
own = numerals_by_value _ (search rules)

-- ---- an offset is written in decimal

no_leading_zero : (n : ℕ) → n < 2 ^ 64 → (nat_lt 1 (length (decimal n)) && (get_or (decimal n) 0 0 == 48)) ≡ false
no_leading_zero zero h = ap (λ l. nat_lt 1 (length l) && (get_or l 0 0 == 48)) (decimal_digit 0 (omega arith))
no_leading_zero (suc n) h =
    and_right _ _ (ne_eqb (get_or (decimal (suc n)) 0 0) 48 (λ e. omega (arith, first_decimal (suc n) (omega arith) h)))

is_decimal-decimal : (n : ℕ) → n < 2 ^ 64 → is_decimal (decimal n) ≡ true
is_decimal-decimal n h =
    let some = not_from_false _ (ne_eqb (length (decimal n)) 0 (λ e. omega (arith, decimal_nonempty n h))) in
    and_from _ _ (and_from _ _ some (not_from_false _ (no_leading_zero n h))) (digits_decimal own n h)

pub offset_of-decimal : (n : ℕ) → n ≤ OFFSET_LIMIT → offset_of (decimal n) ≡ Some n
offset_of-decimal n h =
    let small : n < 2 ^ 64 = omega arith in
    let same = digits_value-decimal own n small in
    let fits = le-leb n OFFSET_LIMIT h in
    rw (is_decimal-decimal n small, same, fits)

some_offset : (b : Bool) (v n : ℕ) → cond b (Some v) None ≡ Some n → (b ≡ true) × (v ≡ n)
some_offset true v n e = (refl, cc)
some_offset false v n e = absurd cc

one_digit : (field : List ℕ) → (nat_lt 1 (length field) && (get_or field 0 0 == 48)) ≡ false
    → 0 < length field → get_or field 0 0 ≡ 48 → length field ≡ 1
one_digit field h some e =
    let first = eq-eqb _ 48 e in
    let short : nat_lt 1 (length field) ≡ false = right_true _ _ first h in
    omega (arith, ltb-false 1 (length field) short)
  where
    right_true : (x y : Bool) → y ≡ true → (x && y) ≡ false → x ≡ false
    right_true true y e h = absurd cc
    right_true false y e h = refl

not_is-false : (b : Bool) → not b ≡ true → b ≡ false
not_is-false true e = absurd cc
not_is-false false e = refl

-- the offset of a field is written as that field
pub decimal-offset_of : (field : List ℕ) (n : ℕ) → offset_of field ≡ Some n → (field ≡ decimal n) × (n ≤ OFFSET_LIMIT)
decimal-offset_of field n h =
    let found = some_offset _ _ n h in
    let parts = and_parts (is_decimal field) _ found.0 in
    let fits = leb-true _ OFFSET_LIMIT parts.1 in
    let digits = and_parts _ _ parts.0 in
    let ends = and_parts _ _ digits.0 in
    let full = eqb-false (length field) 0 (not_is-false _ ends.0) in
    let some : 0 < length field = omega arith in
    let alone = one_digit field (not_is-false _ ends.1) some in
    (sym (decimal-digits_value own field digits.1 some alone (omega arith)) ∙ ap decimal found.1, omega (arith, found.1))

-- ---- both ways

pub reading-IsLine : (line : List ℕ) (offset : ℕ) (key value : List ℕ)
    → IsLine line offset key value → reading line ≡ Ok (read_at offset key value)
reading-IsLine line offset key value h =
    let shown = is_free_of-are_shown 9 (omega arith) (decimal offset) (are_shown-decimal offset (omega (arith, h.offset_fits))) in
    let parts =
    ap (slice_split is_tab) h.fields ∙ slice_split-line_of (decimal offset) key value shown h.key_has_no_tab h.value_has_no_tab in
    let found = offset_of-decimal offset h.offset_fits in
    let short = le-ltb LINE_LIMIT (length line) h.fits in
    let whole : reading line ≡ reading_of (slice_split is_tab line) = rw (short, h.utf8) refl in
    whole ∙ ap reading_of parts ∙ ap (λ n. option_map_or (λ offset. Ok (read_at offset key value)) n (Err BadOffset)) found

if_read : (b : Bool) (fault : LineError) (next : Result Read LineError) (read : Read)
    → cond b (Err fault) next ≡ Ok read → (b ≡ false) × (next ≡ Ok read)
if_read true fault next read e = absurd cc
if_read false fault next read e = (refl, e)

with_offset : (found : Option ℕ) (f : ℕ → Read) (read : Read)
    → option_map_or (λ n. Ok (f n)) found (Err BadOffset) ≡ Ok read → (n : ℕ) × (found ≡ Some n) × (f n ≡ read)
with_offset None f read e = absurd cc
with_offset (Some n) f read e = (n, refl, cc)

not_not-true : (b : Bool) → not b ≡ false → b ≡ true
not_not-true true e = refl
not_not-true false e = absurd cc

two_tabs : (line : List ℕ) (read : Read) → reading_of (slice_split is_tab line) ≡ Ok read → (count_by is_tab line == 2) ≡ true
two_tabs line read h =
    elim (count_by is_tab line == 2) as (λ b. (count_by is_tab line == 2) ≡ b → b ≡ true) [
      | true ↦ λ _. refl
      | false ↦ λ bad. let both : Err BadTabs ≡ Ok read = sym (reading_of-bad_tabs line bad) ∙ h in absurd cc
    ] refl

pub Spells-reading : (line : List ℕ) (read : Read) → reading line ≡ Ok read → Spells line read
Spells-reading line read h =
    let fits = if_read _ _ _ read h in
    let text = if_read _ _ _ read fits.1 in
    let two = two_tabs line read text.1 in
    let end = with_offset _ _ read (ap reading_of (sym (slice_split-fields line two)) ∙ text.1) in
    let parts = has_fields line (eqb-true _ 2 two) in
    let offset = decimal-offset_of (offset_field line) end.0 end.1 in (
      end.0,
      key_field line,
      value_field line,
      record {
        fields = parts.fields ∙ ap (λ o. line_of o (key_field line) (value_field line)) offset.0;
        offset_fits = offset.1;
        key_has_no_tab = parts.key_has_no_tab;
        value_has_no_tab = parts.value_has_no_tab;
        utf8 = not_not-true _ text.0;
        fits = ltb-false LINE_LIMIT (length line) fits.0;
      },
      sym end.2,
    )

pub reading-Spells : (line : List ℕ) (read : Read) → Spells line read → reading line ≡ Ok read
reading-Spells line read (offset, key, value, h, e) = reading-IsLine line offset key value h ∙ ap Ok (sym e)
