-- The entries: the versions that can be read, where rs are the last records.
use Rattle.std.specs.Prelude.{◌≡◌, ◌↔◌, ℕ, List, [], ◌||◌, Option, Some, None, option_and_then, option_map, fold}
use Rattle.std.specs.FinMap as finmap
use Rattle.std.specs.List.{Contains, filter_map}
use Rattle.std.specs.Option.{option_map_or}
use Rattle.reg_values.specs.avro_schema.Schema.{schema_of}
use Rattle.reg_values.specs.Value.{value_of}
use Rattle.reg_values.specs.reg_records.Written.{IsVersionOrId}
use Rattle.reg_values.specs.reg_records.declared.key.Key.{Key}
use Rattle.reg_values.specs.reg_records.declared.key.Key.TheVariants as keys
use Rattle.reg_values.specs.reg_records.declared.record.Record.{Record}
use Rattle.reg_values.specs.reg_records.declared.value.Value.{Value}
use Rattle.reg_values.specs.reg_records.declared.value.Value.TheVariants as values
use Rattle.reg_set.specs.LastRecords.{last, last_records}
use Rattle.reg_set.specs.Records.{Records, records_of}
use Rattle.reg_entries.specs.EntryOrder.{place_cmp, place_of}
use Rattle.reg_entries.specs.Flagged.{with_soft}
use Rattle.reg_fold.specs.Covers.{is_soft_deleted}
use Rattle.reg_entries.specs.declared.entry.Entry.{Entry}

-- the normal text of the schema that a text means, as the text of each version's value does
abbrev pub normal_of : List ℕ → List ℕ
normal_of text = option_map_or (λ meaning. meaning.normal_text) (schema_of text) []

-- a version's value gives its entry by itself: soft where the value says deleted
abbrev pub own_entry_in : ℕ → Value → Option Entry
own_entry_in offset (values.Schema subject version id schema deleted) = Some (record {
  subject = subject;
  version = version;
  id = id;
  text = schema;
  normal = normal_of schema;
  offset = offset;
  soft = deleted;
})
own_entry_in offset (values.Config level) = None
own_entry_in offset (values.Mode mode) = None
own_entry_in offset (values.DeleteSubject subject version) = None
own_entry_in offset values.Noop = None
own_entry_in offset (values.IdMark id) = None

-- that entry among the others: soft by itself, or where its subject was soft-deleted later
abbrev pub covered_in : Records → Entry → Entry
covered_in rs e = with_soft (e.soft || is_soft_deleted rs e.subject e.version e.offset) e

-- a version's value gives its entry
abbrev pub entry_in : Records → ℕ → Value → Option Entry
entry_in rs offset value = option_map (covered_in rs) (own_entry_in offset value)

-- the entry of a record; one without a version's value has none
unfoldable pub entry_of : Records → Record → Option Entry
entry_of rs r = option_and_then (entry_in rs r.offset) (value_of r)

-- the entries of all records, each at its subject and version
unfoldable pub entry_map : Records → finmap.FinMap place_cmp Entry
entry_map rs = fold (λ m e. finmap.insert m (place_of e) e) finmap.empty (filter_map (entry_of rs) (records_of rs))

-- the entries by subject, by its bytes, then by version
unfoldable pub entries : Records → List Entry
entries rs = finmap.values (entry_map rs)

-- an entry that some last record gives
abbrev pub IsOfLast : Records → Entry → Type 0
IsOfLast rs e = (key : Key) × (r : Record) × (last rs key ≡ Some r) × (entry_of rs r ≡ Some e)

-- an entry is there exactly where some last record gives it
abbrev pub AreOfLasts : Records → List Entry → Type 0
AreOfLasts rs es = (e : Entry) → Contains es e ↔ IsOfLast rs e

-- each entry's text means a schema, whose normal text is the entry's
abbrev pub EntriesAreRead : Type 0
EntriesAreRead = (rs : Records) (e : Entry)
    → Contains (entries rs) e
    → option_map (λ meaning. meaning.normal_text) (schema_of e.text) ≡ Some e.normal

-- the entry of a record has the subject and the version of its key
abbrev pub EntriesAreOfKeys : Type 0
EntriesAreOfKeys = (rs : Records) (r : Record) (e : Entry) → entry_of rs r ≡ Some e → r.key ≡ keys.Schema e.subject e.version

-- an entry stands exactly where the last record of its subject and version gives it
abbrev pub EntriesAreOfPlaces : Type 0
EntriesAreOfPlaces = (whole : Records) (e : Entry)
    → Contains (entries (last_records whole)) e
    ↔ ((r : Record) × (last whole (keys.Schema e.subject e.version) ≡ Some r) × (entry_of (last_records whole) r ≡ Some e))

-- the version and the id of each entry are within their limits
abbrev pub EntriesAreInLimits : Type 0
EntriesAreInLimits = (rs : Records) (e : Entry) → Contains (entries rs) e → IsVersionOrId e.version × IsVersionOrId e.id
