-- A line is `offset TAB key TAB value`, in UTF-8, before its LF.
use Rattle.std.specs.Prelude.{◌≡◌, ◌≤◌, ⊤, ℕ, List, [], ◌∷◌, ◌++◌, Bool, true, ◌&&◌, ◌==◌, not, nat_lt, nat_le, length, take}
use Rattle.std.specs.Prelude.{slice_index, bytes_eq, codes, decimal, position, Option, Some, None, Result, Ok, Err, if◌then◌else◌}
use Rattle.std.specs.Char.{is_ascii_digit}
use Rattle.std.specs.List.{list_all, slice_split}
use Rattle.std.specs.Option.{option_map_or}
use Rattle.std.specs.Str.{is_utf8}
use Rattle.std.specs.Str.Parse.{digits_value}
use Rattle.reg_records.specs.Key.{key_of}
use Rattle.reg_records.specs.declared.limits.TheConstants.{OFFSET_LIMIT, LINE_LIMIT}
use Rattle.reg_records.specs.declared.line.LineError.{LineError}
use Rattle.reg_records.specs.declared.line.LineError.TheVariants.{Truncated, TooLong, BadUtf8, BadTabs, BadOffset}
use Rattle.reg_records.specs.declared.line.ReadLineError.{ReadLineError}
use Rattle.reg_records.specs.declared.line.ReadLineError.TheVariants as errors
use Rattle.reg_records.specs.declared.record.Read.{Read}
use Rattle.reg_records.specs.declared.record.Read.TheVariants as reads

abbrev pub is_line_feed : ℕ → Bool
is_line_feed b = b == 10

abbrev pub is_tab : ℕ → Bool
is_tab b = b == 9

-- decimal digits without a leading zero, but for `0` itself
abbrev pub is_decimal : List ℕ → Bool
is_decimal field = not (length field == 0) && not (nat_lt 1 (length field) && (slice_index field 0 == 48)) && list_all is_ascii_digit field

-- the offset that a field spells, within the limit
abbrev pub offset_of : List ℕ → Option ℕ
offset_of field = if is_decimal field && nat_le (digits_value 10 field) OFFSET_LIMIT then Some (digits_value 10 field) else None

-- a line whose key is of no kind known here is foreign; the value `null`, those four bytes alone, is no value
abbrev pub read_at : ℕ → List ℕ → List ℕ → Read
read_at offset key value = let text : Option (List ℕ) = if bytes_eq value (codes "null") then None else Some value in
    option_map_or (λ found. reads.Record (record { offset = offset; key = found; value = text })) (key_of key) (reads.Foreign offset)

-- what the fields of a line say, which are parted by TABs: an offset, a key and a value
abbrev pub reading_of : List (List ℕ) → Result Read LineError
reading_of (offset ∷ key ∷ value ∷ []) = option_map_or (λ n. Ok (read_at n key value)) (offset_of offset) (Err BadOffset)
reading_of fields = Err BadTabs

-- what a line says, or the first fault that it has
abbrev pub reading : List ℕ → Result Read LineError
reading line = if nat_lt LINE_LIMIT (length line) then Err TooLong
    else (if not (is_utf8 line) then Err BadUtf8 else reading_of (slice_split is_tab line))

-- what the line at the front of the bytes says; bytes without LF are no whole line
abbrev pub reading_at_front : List ℕ → Result Read LineError
reading_at_front bytes = option_map_or (λ n. reading (take n bytes)) (position is_line_feed bytes) (Err Truncated)

-- no byte of the text passes the test
abbrev pub is_free_of : (ℕ → Bool) → List ℕ → Bool
is_free_of test text = list_all (λ b. not (test b)) text

-- the three fields, parted by TABs
abbrev pub line_of : List ℕ → List ℕ → List ℕ → List ℕ
line_of offset key value = offset ++ 9 ∷ (key ++ 9 ∷ value)

-- the grammar of a line: an offset, a key and a value
pub record IsLine (line : List ℕ) (offset : ℕ) (key value : List ℕ) : Type 0 where
  pub fields : line ≡ line_of (decimal offset) key value
  pub offset_fits : offset ≤ OFFSET_LIMIT
  pub key_has_no_tab : is_free_of is_tab key ≡ true
  pub value_has_no_tab : is_free_of is_tab value ≡ true
  pub utf8 : is_utf8 line ≡ true
  pub fits : length line ≤ LINE_LIMIT

-- the line is one of the grammar, and that is what its fields say
abbrev pub Spells : List ℕ → Read → Type 0
Spells line read = (offset : ℕ) × (key : List ℕ) × (value : List ℕ) × IsLine line offset key value × (read ≡ read_at offset key value)

-- the refusal is that fault; out of memory is not one
abbrev pub IsFaultOf : Result Read LineError → ReadLineError → Type 0
IsFaultOf given (errors.Line fault) = given ≡ Err fault
IsFaultOf given errors.OutOfMemory = ⊤
