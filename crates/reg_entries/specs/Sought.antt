-- What is sought among the entries es of a registry.
use Rattle.std.specs.Prelude.{ℕ, max, min, Bool, true, false, List, Option, Some, None, map, bytes_eq, find, not, ◌&&◌, ◌||◌, ◌==◌}
use Rattle.std.specs.List.{dedup, filter, list_any, reduce}
use Rattle.std.specs.List.Sorted.{IsStrictlyIncreasing}
use Rattle.std.specs.Ordering.{nat_cmp, on, ord_max}
use Rattle.reg_entries.specs.EntryOrder.{naming_cmp}
use Rattle.reg_entries.specs.declared.entry.Entry.{Entry}

-- the entries of a subject
abbrev pub of_subject : List Entry → List ℕ → List Entry
of_subject es subject = filter (λ e. bytes_eq e.subject subject) es

-- whether an entry counts: a live one does, and a soft one where the deleted ones are asked for too
abbrev pub counts : Bool → Entry → Bool
counts deleted e = deleted || not e.soft

-- the entries of a subject that count
abbrev pub counting : List Entry → List ℕ → Bool → List Entry
counting es subject deleted = filter (counts deleted) (of_subject es subject)

-- the live entries of a subject
abbrev pub live_of : List Entry → List ℕ → List Entry
live_of es subject = counting es subject false

-- of some entries the one of greatest version
abbrev pub newest : List Entry → Option Entry
newest es = reduce (ord_max (on (λ e. e.version) nat_cmp)) es

-- of a subject's entries that count the one of greatest version
abbrev pub latest : List Entry → List ℕ → Bool → Option Entry
latest es subject deleted = newest (counting es subject deleted)

-- whether an entry has the schema of that normal text
abbrev pub has_schema : List ℕ → Entry → Bool
has_schema normal e = bytes_eq e.normal normal

-- the versions of some entries, each with the text that it holds
abbrev pub texts_of : List Entry → List (ℕ × List ℕ)
texts_of es = map (λ e. (e.version, e.text)) es

-- of a subject's entries that count the one of that version
abbrev pub of_version : List Entry → List ℕ → ℕ → Bool → Option Entry
of_version es subject version deleted = find (λ e. e.version == version) (counting es subject deleted)

-- the subjects with an entry that counts, each once
abbrev pub subjects : List Entry → Bool → List (List ℕ)
subjects es deleted = dedup bytes_eq (map (λ e. e.subject) (filter (counts deleted) es))

-- whether the entry is in the scope: of that subject, or of any one
abbrev pub is_in_scope : Option (List ℕ) → Entry → Bool
is_in_scope None e = true
is_in_scope (Some subject) e = bytes_eq e.subject subject

-- whether the scope has a live entry
abbrev pub has_live : List Entry → Option (List ℕ) → Bool
has_live es scope = list_any (λ e. is_in_scope scope e && not e.soft) es

-- the entries with an id
abbrev pub with_id : List Entry → ℕ → List Entry
with_id es id = filter (λ e. e.id == id) es

-- the entries stand by version: each is smaller than the next one's
abbrev pub AreInVersionOrder : List Entry → Type 0
AreInVersionOrder es = IsStrictlyIncreasing (map (λ e. e.version) es)

-- of the entries with the id, soft ones too, the one of greatest offset; of these the
-- one of greatest subject by bytes, then of greatest version
abbrev pub named : List Entry → ℕ → Option Entry
named es id = reduce (ord_max naming_cmp) (with_id es id)

-- the greatest id of an entry, soft ones too
abbrev pub greatest_id : List Entry → Option ℕ
greatest_id es = reduce max (map (λ e. e.id) es)

-- the greatest version of a subject's entries, soft ones too
abbrev pub greatest_version : List Entry → List ℕ → Option ℕ
greatest_version es subject = reduce max (map (λ e. e.version) (of_subject es subject))

-- the least id of an entry of that normal text, soft ones too
abbrev pub id_of : List Entry → List ℕ → Option ℕ
id_of es normal = reduce min (map (λ e. e.id) (filter (λ e. bytes_eq e.normal normal) es))

-- whether an entry has the id of e and another normal text
abbrev pub shares_its_id : List Entry → Entry → Bool
shares_its_id es e = list_any (λ o. o.id == e.id && not (bytes_eq o.normal e.normal)) es

-- the least id that two entries of different normal texts have, soft ones too
abbrev pub two_schemas : List Entry → Option ℕ
two_schemas es = reduce min (map (λ e. e.id) (filter (shares_its_id es) es))
