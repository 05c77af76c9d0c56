-- Each entry's text is a schema's, and its normal text is that schema's.
use Rattle.std.proofs.Common.{◌≡◌, ℕ, ◌<◌, zero, suc, true, List, [], ◌∷◌, length, get_or, map, is_some}
use Rattle.std.proofs.Common.{option_and_then, option_map, Option, Some, None, refl, sym, ap, subst, ◌∙◌, arith}
use Rattle.std.proofs.lemmas.Bool.{false≢true}
use Rattle.std.specs.FinMap as finmap
use Rattle.std.specs.List.{AllByRecursion}
use Rattle.std.specs.Option.{option_map_or}
use Rattle.reg_values.specs.avro_schema.Schema.{Meaning, schema_of}
use Rattle.reg_values.specs.reg_records.declared.record.Record.{Record}
use Rattle.reg_set.specs.Records.{Records}
use Rattle.reg_entries.specs.EntryOrder.{Place}
use Rattle.reg_entries.specs.declared.entry.Entry.{Entry}
use Rattle.reg_fold.specs.Entries.{EntriesAreRead, covered_in, entries, entry_of, entry_map}
use Rattle.reg_fold.specs.Own.{own_entry_of}
use Rattle.reg_fold.proofs.Own.{own_some}
use Rattle.reg_fold.proofs.Placed.{entry_map-each}
use Rattle.reg_fold.proofs.Values.{entry_of-shown, entry_of-under}

abbrev IsRead : Entry → Type 0
IsRead e = option_map (λ meaning. meaning.normal_text) (schema_of e.text) ≡ Some e.normal

meaning_of : (o : Option Meaning) → is_some o ≡ true
    → option_map (λ meaning. meaning.normal_text) o ≡ Some (option_map_or (λ meaning. meaning.normal_text) o [])
meaning_of None is = absurd (false≢true is)
meaning_of (Some meaning) is = refl

-- the entry of a record is read
entry_of-read : (rs : Records) (r : Record) (e : Entry) → entry_of rs r ≡ Some e → IsRead e
entry_of-read rs r e is = meaning_of (schema_of e.text) (entry_of-under rs r e is).1 ∙ ap Some (sym (entry_of-shown rs r e is).normal)

-- so is the one that a record gives by itself
pub own_read : (rs : Records) (o : Option Record) (e : Entry) → option_and_then own_entry_of o ≡ Some e → IsRead e
own_read rs None e gives = absurd (cc)
own_read rs (Some r) e gives = entry_of-read rs r (covered_in rs e) (own_some rs r e gives)

-- what holds of each entry that is kept holds of one among them
pub of_kept : (P : Entry → Type 0) (es : List (Place × Entry)) → AllByRecursion (λ kept. P kept.1) es
    → (e : Entry) (k : ℕ) → k < length (map (λ kept. kept.1) es) → get_or (map (λ kept. kept.1) es) k e ≡ e → P e
of_kept P [] all e k within at = absurd (omega arith)
of_kept P (f ∷ fs) all e zero within at = subst P at all.0
of_kept P (f ∷ fs) all e (suc k) within at = of_kept P fs all.1 e k (omega arith) at

pub entries-read : EntriesAreRead
unfolding entries
entries-read rs e has =
    of_kept IsRead (finmap.entries (entry_map rs))
    (entry_map-each (λ kept. IsRead kept.1) rs (λ r e is. entry_of-read rs r e is)) e has.0 has.1 has.2
