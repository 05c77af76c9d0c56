-- The foreign lines of a log, by the keytypes of their keys.
use Rattle.std.specs.Prelude.{◌↔◌, ℕ, List, [], ◌∷◌, Bool, false, ◌==◌, length, map}
use Rattle.std.specs.Prelude.{count_by, codes, Option, option_and_then, if◌then◌else◌}
use Rattle.std.specs.Cmp.Lexicographic.{slice_cmp}
use Rattle.std.specs.List.{Contains, filter, slice_get, slice_split}
use Rattle.std.specs.List.Sorted.{IsStrictlySortedBy}
use Rattle.std.specs.Map.{keys_of}
use Rattle.std.specs.Option.{option_cmp, option_map_or}
use Rattle.std.specs.Ordering.{eq_by_cmp, nat_cmp}
use Rattle.std.specs.Result.{result_ok}
use Rattle.std.specs.declared.cmp.Ordering.{Ordering}
use Rattle.serde_json.specs.Read.{read}
use Rattle.reg_fold.specs.reg_records.Json.{text_at}
use Rattle.reg_fold.specs.reg_records.Line.{is_line_feed, is_tab, reading}
use Rattle.reg_fold.specs.reg_records.Log.{is_foreign}
use Rattle.reg_inspection.specs.Shared.{rising_by}

-- the lines before the first empty one
abbrev pub before_empty : List (List ℕ) → List (List ℕ)
before_empty [] = []
before_empty (line ∷ lines) = if length line == 0 then [] else line ∷ before_empty lines

-- the lines of a log
abbrev pub log_lines : List ℕ → List (List ℕ)
log_lines text = before_empty (slice_split is_line_feed text)

-- whether the key of a line is of no kind known here
abbrev pub is_foreign_line : List ℕ → Bool
is_foreign_line line = option_map_or is_foreign (result_ok (reading line)) false

-- the text `keytype` of a line's key, which is the second of its fields, where it has one
abbrev pub keytype_in : List ℕ → Option (List ℕ)
keytype_in line = option_and_then (text_at (codes "keytype")) (option_and_then read (slice_get (slice_split is_tab line) 1))

-- the keytypes of those of the lines that are foreign
abbrev pub foreign_keytypes : List (List ℕ) → List (Option (List ℕ))
foreign_keytypes lines = map keytype_in (filter is_foreign_line lines)

-- no keytype stands before all texts, and texts are ordered by their bytes
abbrev pub keytype_cmp : Option (List ℕ) → Option (List ℕ) → Ordering
keytype_cmp = option_cmp (slice_cmp nat_cmp)

-- how often that one is among them
abbrev pub count_of : List (Option (List ℕ)) → Option (List ℕ) → ℕ
count_of keytypes keytype = count_by (eq_by_cmp keytype_cmp keytype) keytypes

-- each of them once, in ascending order, with how often it is among them
abbrev pub tally_of : List (Option (List ℕ)) → List (Option (List ℕ) × ℕ)
tally_of keytypes = map (λ keytype. (keytype, count_of keytypes keytype)) (rising_by keytype_cmp keytypes)

-- the keytypes of a log's foreign lines, each with the number of these lines that have it
abbrev pub foreign_tally : List ℕ → List (Option (List ℕ) × ℕ)
foreign_tally text = tally_of (foreign_keytypes (log_lines text))

-- each keytype of a tally is smaller than the next one
abbrev pub TalliesRise : Type 0
TalliesRise = (keytypes : List (Option (List ℕ))) → IsStrictlySortedBy keytype_cmp (keys_of (tally_of keytypes))

-- a keytype is in a tally exactly where it was tallied
abbrev pub TalliesHaveEach : Type 0
TalliesHaveEach = (keytypes : List (Option (List ℕ))) (keytype : Option (List ℕ)) → Contains (keys_of (tally_of keytypes)) keytype
    ↔ Contains keytypes keytype
