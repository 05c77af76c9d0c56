-- What the fields of a head say.
use Rattle.std.specs.Prelude.{ℕ, List, [], ◌∷◌, Bool, ◌&&◌, ◌==◌, not, nat_le, nat_lt, length, map}
use Rattle.std.specs.Prelude.{filter, codes, Option, Some, None, Result, Ok, Err, if◌then◌else◌}
use Rattle.std.specs.Borrow.{Bor}
use Rattle.std.specs.Char.{is_ascii_digit}
use Rattle.std.specs.List.{list_all, list_any, slice_split}
use Rattle.std.specs.Str.{str_eq_ignore_ascii_case}
use Rattle.std.specs.Str.Parse.{digits_value}
use Rattle.httparse.specs.Grammar.{trim_ows}
use Rattle.reg_refusals.specs.declared.refusal.Refusal.{Refusal}
use Rattle.reg_refusals.specs.declared.refusal.Refusal.TheVariants as refusals
use Rattle.reg_messages.specs.declared.limits.TheConstants.{BODY_LIMIT}
use Rattle.reg_messages.specs.declared.field.HeaderField.{HeaderField}

-- the fields of a list: the first one's name and value, and those after it
abbrev pub split_fields : {A : Type 0} → (A → List HeaderField) → Option (Bor (List ℕ) × Bor (List ℕ) × A) → List HeaderField
split_fields fields None = []
split_fields fields (Some (name, value, rest)) = record { name = name.now; value = value.now } ∷ fields rest

-- the values of the fields of that name, whatever the case of its letters
abbrev pub values_of : List ℕ → List HeaderField → List (List ℕ)
values_of name fields = map (λ f. f.value) (filter (λ f. str_eq_ignore_ascii_case f.name name) fields)

-- the same values: the first one, and those of the fields after it
abbrev pub values_found : {A : Type 0} → (A → List HeaderField) → List ℕ → Option (Bor (List ℕ) × A) → List (List ℕ)
values_found fields name None = []
values_found fields name (Some (value, rest)) = value.now ∷ values_of name (fields rest)

-- 1 to 19 digits
abbrev pub is_length : List ℕ → Bool
is_length value = nat_lt 0 (length value) && nat_le (length value) 19 && list_all is_ascii_digit value

-- the length that the values of Content-Length give, where there is one
abbrev pub length_of : List (List ℕ) → Result (Option ℕ) Refusal
length_of [] = Ok None
length_of (value ∷ []) =
    if not (is_length value) then Err refusals.BadRequest
    else (if nat_lt BODY_LIMIT (digits_value 10 value) then Err refusals.PayloadTooLarge else Ok (Some (digits_value 10 value)))
length_of (value ∷ other ∷ more) = Err refusals.BadRequest

-- the length of the body that the fields state, where they state one
abbrev pub told_length : List HeaderField → Result (Option ℕ) Refusal
told_length fields =
    if nat_lt 0 (length (values_of (codes "transfer-encoding") fields)) then Err refusals.LengthRequired
    else length_of (values_of (codes "content-length") fields)

-- how many bytes the body has; none where the fields are refused
abbrev pub body_length : List HeaderField → ℕ
body_length fields = bytes_in (told_length fields)
  where
    bytes_in : Result (Option ℕ) Refusal → ℕ
    bytes_in (Ok (Some n)) = n
    bytes_in (Ok None) = 0
    bytes_in (Err refusal) = 0

abbrev pub is_comma : ℕ → Bool
is_comma b = b == 44

abbrev pub is_close : List ℕ → Bool
is_close item = str_eq_ignore_ascii_case (trim_ows item) (codes "close")

-- the list of the value, parted at commas, holds `close`
abbrev pub holds_close : List ℕ → Bool
holds_close value = list_any is_close (slice_split is_comma value)

-- some Connection field holds `close`
abbrev pub asks_to_close : List HeaderField → Bool
asks_to_close fields = list_any holds_close (values_of (codes "connection") fields)
