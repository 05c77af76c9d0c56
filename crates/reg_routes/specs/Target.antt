-- The path and the query of a target.
use Rattle.std.specs.Prelude.{ℕ, zero, suc, List, Bool, ◌&&◌, ◌==◌, nat_eq, codes, Option}
use Rattle.std.specs.Prelude.{Some, None, option_map, ok_or, Result, Ok, if◌then◌else◌}
use Rattle.std.specs.List.{before_first, after_first, starts_with}
use Rattle.std.specs.Str.{is_utf8}
use Rattle.percent_encoding.specs.Percent.{percent_decode}
use Rattle.reg_refusals.specs.declared.refusal.Refusal.{Refusal}
use Rattle.reg_refusals.specs.declared.refusal.Refusal.TheVariants.{BadRequest}

abbrev pub is_question_mark : ℕ → Bool
is_question_mark b = b == 63

abbrev pub is_slash : ℕ → Bool
is_slash b = b == 47

-- the target begins with `/`, and is UTF-8
abbrev pub is_path : List ℕ → Bool
is_path target = starts_with nat_eq target (codes "/") && is_utf8 target

-- a target without its query
abbrev pub path_of : List ℕ → List ℕ
path_of target = before_first is_question_mark target

-- what stands after the first question mark
abbrev pub query_of : List ℕ → List ℕ
query_of target = after_first is_question_mark target

-- what stands between two slashes of a path, before the first or after the last, counted from 0
abbrev pub part_at : ℕ → List ℕ → List ℕ
part_at zero path = before_first is_slash path
part_at (suc place) path = part_at place (after_first is_slash path)

-- the text that a part of a path stands for, its escapes read once (RFC 3986, section 2.1); none where it is no UTF-8
abbrev pub part_text : List ℕ → Option (List ℕ)
part_text part = if is_utf8 (percent_decode part) then Some (percent_decode part) else None

-- the text of the part of that number, where one is asked for
abbrev pub text_part : List ℕ → Option ℕ → Result (Option (List ℕ)) Refusal
text_part path None = Ok None
text_part path (Some place) = ok_or (option_map (λ text. Some text) (part_text (part_at place path))) BadRequest
