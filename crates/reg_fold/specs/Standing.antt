-- What commands and queries ask of the entries. Below, rs are the last records.
use Rattle.std.specs.Prelude.{◌≡◌, ℕ, List, Bool, Contains, Option, Some}
use Rattle.reg_entries.specs.Sought as sought
use Rattle.reg_entries.specs.declared.entry.Entry.{Entry}
use Rattle.reg_set.specs.Records.{Records}
use Rattle.reg_fold.specs.Entries.{entries}
use Rattle.reg_fold.specs.declared.version_ref.VersionRef.{VersionRef}
use Rattle.reg_fold.specs.declared.version_ref.VersionRef.TheVariants.{Latest, Number}

-- the live entries of a subject, by version: those that aren't soft
abbrev pub live : Records → List ℕ → List Entry
live rs subject = sought.live_of (entries rs) subject

-- of the entries with the id, soft ones too, the one of greatest offset; of these the
-- one of greatest subject by bytes, then of greatest version
abbrev pub named : Records → ℕ → Option Entry
named rs id = sought.named (entries rs) id

-- the greatest id of an entry, soft ones too
abbrev pub greatest_id : Records → Option ℕ
greatest_id rs = sought.greatest_id (entries rs)

-- the greatest version of a subject's entries, soft ones too
abbrev pub greatest_version : Records → List ℕ → Option ℕ
greatest_version rs subject = sought.greatest_version (entries rs) subject

-- of a subject's entries that count the one that is meant
abbrev pub version_in : List Entry → List ℕ → VersionRef → Bool → Option Entry
version_in es subject Latest deleted = sought.latest es subject deleted
version_in es subject (Number version) deleted = sought.of_version es subject version deleted

-- the entries of a subject that count stand by version
abbrev pub EntriesStandByVersion : Type 0
EntriesStandByVersion = (rs : Records) (subject : List ℕ) (deleted : Bool)
    → sought.AreInVersionOrder (sought.counting (entries rs) subject deleted)

-- the entry that is found of a subject is one of the entries
abbrev pub FoundEntriesStand : Type 0
FoundEntriesStand = (es : List Entry) (subject : List ℕ) (which : VersionRef) (deleted : Bool) (e : Entry)
    → version_in es subject which deleted ≡ Some e
    → Contains es e
