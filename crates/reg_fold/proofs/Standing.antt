-- Which entries stand by the last records, and which records are opaque.
use Rattle.std.proofs.Common.{◌≡◌, ◌↔◌, inl, inr, ℕ, Bool, true, false, List, [], ◌∷◌, map, min}
use Rattle.std.proofs.Common.{Some, None, Contains, refl, sym, ap, ◌∙◌}
use Rattle.std.proofs.lemmas.Bool.{false≢true}
use Rattle.std.specs.Cmp.{IsTotalOrder}
use Rattle.std.specs.FinMap as finmap
use Rattle.std.specs.FinSet.{IsAntisymmetric, contains}
use Rattle.std.specs.List.{filter, reduce}
use Rattle.reg_values.specs.reg_records.Written.{IsVersionOrId}
use Rattle.reg_values.specs.OfKey.{ValuesAreOfKeys}
use Rattle.reg_values.specs.reg_records.declared.key.Key.{Key}
use Rattle.reg_values.specs.reg_records.declared.key.Key.TheVariants as keys
use Rattle.reg_values.specs.reg_records.declared.record.Record.{Record}
use Rattle.reg_values.specs.reg_records.declared.value.Value.TheVariants as values
use Rattle.reg_set.specs.Join.{LastIsGreatest, LastOfLastRecords, LastRecordsKeepLasts, LastRecordsOfPart}
use Rattle.reg_set.specs.LastRecords.{last, last_records}
use Rattle.reg_set.specs.RecordOrder.{record_cmp}
use Rattle.reg_set.specs.Records.{Records, records_of}
use Rattle.reg_entries.specs.declared.entry.Entry.{Entry}
use Rattle.reg_fold.specs.Entries.{EntriesAreInLimits, EntriesAreOfKeys}
use Rattle.reg_fold.specs.Entries.{EntriesAreOfPlaces, IsOfLast, entries}
use Rattle.reg_fold.specs.Entries.{entry_map, entry_of}
use Rattle.reg_fold.specs.Opaque.{NoneIsNoOpaqueLast, is_opaque, opaque}
use Rattle.reg_fold.proofs.Least.{Has, among, none_opaque, there}
use Rattle.reg_fold.proofs.OfLasts.{are_of_lasts, last_of_itself, last_records-last_records}
use Rattle.reg_fold.proofs.Placed.{entry_map-each}
use Rattle.reg_fold.proofs.Places.{entry_of-key, inside}
use Rattle.reg_fold.proofs.Readable.{of_kept}
use Rattle.reg_fold.proofs.Steps.{entries_are_of_lasts}
use Rattle.reg_fold.proofs.Values.{entry_of-shown}

pub entries-of_keys : EntriesAreOfKeys
entries-of_keys rs r e is = entry_of-key rs r e is

-- limits
abbrev IsFit : Entry → Type 0
IsFit e = IsVersionOrId e.version × IsVersionOrId e.id

entry_of-fits : ValuesAreOfKeys → (rs : Records) (r : Record) (e : Entry) → entry_of rs r ≡ Some e → IsFit e
entry_of-fits of_keys rs r e is =
    let s = entry_of-shown rs r e is in
    elim (of_keys r (values.Schema e.subject e.version e.id e.text s.deleted) s.value) [
      | inl fits ↦ (fits.1, fits.2)
      | inr other ↦ absurd (cc)
    ]

pub entries-in_limits : ValuesAreOfKeys → EntriesAreInLimits
unfolding entries
entries-in_limits of_keys rs e has =
    of_kept IsFit (finmap.entries (entry_map rs))
    (entry_map-each (λ kept. IsFit kept.1) rs (λ r e is. entry_of-fits of_keys rs r e is)) e has.0 has.1 has.2

some_first : (n : ℕ) (ns : List ℕ) → reduce min (n ∷ ns) ≡ None → ⊥
some_first n ns e = cc

none_of : (ns : List ℕ) → reduce min ns ≡ None → (m : ℕ) → Has m ns → ⊥
none_of [] e m has = has
none_of (n ∷ ns) e m has = some_first n ns e

stays_false : (b : Bool) → (b ≡ true → ⊥) → b ≡ false
stays_false true h = absurd (h refl)
stays_false false h = refl

module _ (total : IsTotalOrder record_cmp) (ties : IsAntisymmetric record_cmp) (greatest : LastIsGreatest)
    (of_last : LastOfLastRecords) (compaction : LastRecordsKeepLasts) (same : LastRecordsOfPart) where
  once : (whole : Records) → last_records (last_records whole) ≡ last_records whole
  once whole = last_records-last_records compaction same whole

  pub entries-of_places : EntriesAreOfPlaces
  entries-of_places whole e = (given, gives)
    where
      both : Contains (entries (last_records whole)) e ↔ IsOfLast (last_records whole) e
      both = are_of_lasts greatest (last_records whole) (entries_are_of_lasts total ties greatest (last_records whole) (once whole)) e

      given : Contains (entries (last_records whole)) e
          → (r : Record) × (last whole (keys.Schema e.subject e.version) ≡ Some r) × (entry_of (last_records whole) r ≡ Some e)
      given has =
          let (key, r, is, made) = both.0 has in
          let own : keys.Schema e.subject e.version ≡ key =
          sym (entry_of-key (last_records whole) r e made) ∙ ((greatest (last_records whole) key r).0 is).is_of_key in
          (r, ap (last whole) own ∙ sym (of_last whole key) ∙ is, made)

      gives : ((r : Record) × (last whole (keys.Schema e.subject e.version) ≡ Some r) × (entry_of (last_records whole) r ≡ Some e))
          → Contains (entries (last_records whole)) e
      gives one =
          let key = keys.Schema e.subject e.version in
          both.1 (key, one.0, of_last whole key ∙ one.1, one.2)

  -- a record among the last ones is the last of its key
  own : (whole : Records) (r : Record) → contains (last_records whole) r ≡ true → last (last_records whole) r.key ≡ Some r
  own whole = last_of_itself total ties (last_records whole) (once whole)

  listed : (whole : Records) (r : Record) → contains (last_records whole) r ≡ among r (records_of (last_records whole))
  listed whole r = inside total ties greatest (last_records whole) (own whole) r

  pub none-no_opaque_last : NoneIsNoOpaqueLast
  unfolding opaque
  none-no_opaque_last whole = (forth, back)
    where
      forth : reduce min (map (λ r. r.offset) (filter is_opaque (records_of (last_records whole)))) ≡ None
          → (key : Key) (r : Record) → last whole key ≡ Some r → is_opaque r ≡ false
      forth none key r is =
          let inside_set = ((greatest (last_records whole) key r).0 (of_last whole key ∙ is)).is_in_set in
          stays_false (is_opaque r) (λ unread.
          none_of (map (λ r. r.offset) (filter is_opaque (records_of (last_records whole)))) none r.offset
          (there total ties (records_of (last_records whole)) r (sym (listed whole r) ∙ inside_set) unread))

      back : ((key : Key) (r : Record) → last whole key ≡ Some r → is_opaque r ≡ false)
          → reduce min (map (λ r. r.offset) (filter is_opaque (records_of (last_records whole)))) ≡ None
      back each =
          ap (λ rs. reduce min (map (λ r. r.offset) rs)) (none_opaque total ties (records_of (last_records whole)) (λ r h unread.
          false≢true (sym (each r.key r (sym (of_last whole r.key) ∙ own whole r (listed whole r ∙ h))) ∙ unread)))
