-- What a member of a JSON object says; a value that is no object has no member.
use Rattle.std.specs.Prelude.{ℕ, List, ◌&&◌, ◌==◌, Bool, false, Option, Some, None}
use Rattle.std.specs.Prelude.{option_and_then, nat_le, bytes_eq, is_some, if◌then◌else◌}
use Rattle.std.specs.Option.{option_map_or}
use Rattle.serde_json.specs.Data.{Data}
use Rattle.serde_json.specs.Find.{get, as_null, as_str, as_number, as_u64}
use Rattle.reg_records.specs.declared.limits.TheConstants.{NUMBER_LIMIT}

-- the JSON value null
abbrev pub is_null : Data → Bool
is_null d = is_some (as_null d)

-- the text of the member of that name, if it is a string
abbrev pub text_at : List ℕ → Data → Option (List ℕ)
text_at name d = option_and_then as_str (get name d)

-- the text of the member of that name, if it is a string that passes the test
abbrev pub text_where : (List ℕ → Bool) → List ℕ → Data → Option (List ℕ)
text_where test name d = option_and_then (λ text. if test text then Some text else None) (text_at name d)

-- a version or an id: from 1 to the limit
abbrev pub within_number_limit : ℕ → Option ℕ
within_number_limit n = if nat_le 1 n && nat_le n NUMBER_LIMIT then Some n else None

-- the number of the member of that name, if it is a whole number that a version or an id may be
abbrev pub number_at : List ℕ → Data → Option ℕ
number_at name d = option_and_then within_number_limit (option_and_then as_u64 (option_and_then as_number (get name d)))

-- the member of that name is that string
abbrev pub has_text_at : List ℕ → List ℕ → Data → Bool
has_text_at name text d = option_map_or (λ found. bytes_eq found text) (text_at name d) false

-- the member of that name is that number
abbrev pub has_number_at : List ℕ → ℕ → Data → Bool
has_number_at name n d = option_map_or (λ found. found == n) (number_at name d) false
