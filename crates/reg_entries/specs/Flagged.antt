-- Entries with other flags.
use Rattle.std.specs.Prelude.{◌≡◌, ℕ, Bool, List, map, fold, bytes_eq, if◌then◌else◌, ◌==◌}
use Rattle.reg_entries.specs.declared.entry.Flag.{Flag}
use Rattle.reg_entries.specs.declared.entry.Entry.{Entry}

abbrev pub with_soft : Bool → Entry → Entry
with_soft soft e = record e { soft = soft }

-- the entry after one flag of its subject
abbrev pub flag_one : Entry → Flag → Entry
flag_one e m = if e.version == m.version then with_soft m.soft e else e

-- the entry after some flags of a subject, one after another
abbrev pub flagged : List ℕ → List Flag → Entry → Entry
flagged subject flags e = if bytes_eq e.subject subject then fold flag_one e flags else e

-- each of the entries es has its flag, in their order
abbrev pub FlagsEach : (Entry → Bool) → List Flag → List Entry → Type 0
FlagsEach soft flags es = flags ≡ map (λ e. record { version = e.version; soft = soft e }) es
