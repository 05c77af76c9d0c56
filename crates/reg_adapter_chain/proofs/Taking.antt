-- One line more of a batch.
use Rattle.std.proofs.Common.{◌≡◌, ◌<◌, ◌+◌, ℕ, List, ◌∷◌, [], ◌++◌, Option, Some, None, get_or, length, option_to_list, refl, sym, ap, ◌∙◌, take}
use Rattle.std.proofs.lemmas.List.{take_more}
use Rattle.std.specs.List.{cons_option}
use Rattle.reg_records.specs.Log.{record_in, records_in}
use Rattle.reg_records.specs.declared.record.Read.{Read}
use Rattle.reg_records.specs.declared.record.Record.{Record}

as_list : (o : Option Record) → cons_option o [] ≡ option_to_list o
as_list None = refl
as_list (Some r) = refl

cons_then : (o : Option Record) (rs more : List Record) → cons_option o (rs ++ more) ≡ cons_option o rs ++ more
cons_then None rs more = refl
cons_then (Some r) rs more = refl

records_then : (reads : List Read) (read : Read) → records_in (reads ++ read ∷ []) ≡ records_in reads ++ option_to_list (record_in read)
records_then [] read = as_list (record_in read)
records_then (first ∷ rest) read =
    ap (cons_option (record_in first)) (records_then rest read)
    ∙ cons_then (record_in first) (records_in rest) (option_to_list (record_in read))

-- the records of one line more
pub one_more : (reads : List Read) (i : ℕ) (read : Read) → i < length reads → read ≡ get_or reads i read
    → records_in (take (i + 1) reads) ≡ records_in (take i reads) ++ option_to_list (record_in read)
one_more reads i read below is =
    ap (λ (rs : List Read). records_in rs) (take_more reads i read below ∙ ap (λ (x : Read). take i reads ++ x ∷ []) (sym is))
    ∙ records_then (take i reads) read
