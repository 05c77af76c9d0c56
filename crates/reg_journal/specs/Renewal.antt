-- What a renewal leaves where no new file stands in the file's place.
use Rattle.std.specs.Prelude.{◌≡◌, ⊤, ℕ, List, true}
use Rattle.reg_journal.specs.JournalState.{JournalState}
use Rattle.reg_journal.specs.declared.disk.DiskError.TheVariants.{OutOfMemory}
use Rattle.reg_journal.specs.declared.renewal.RenewError.{RenewError}
use Rattle.reg_journal.specs.declared.renewal.RenewError.TheVariants.{Kept, Lost}

-- one that wasn't finished leaves the disk as it was
abbrev pub LeavesDisk : {D : Type 0} → (D → Type 0) → (D → List ℕ) → (D → List ℕ → Type 0) → D → D → RenewError → Type 0
LeavesDisk known seen may_leave old new (Kept e) = known new × (seen new ≡ seen old) × ((c : List ℕ) → may_leave new c → may_leave old c)
LeavesDisk known seen may_leave old new Lost = ⊤

-- memory was refused
abbrev pub no_memory : RenewError
no_memory = Kept OutOfMemory

-- a journal whose new file wasn't finished is as it was, and its file has the same bytes; else it takes no batch any more
abbrev pub IsLostOrKept : {D : Type 0} → Type 0 → (D → List ℕ) → JournalState D → RenewError → JournalState D → Type 0
IsLostOrKept is_modelled seen old (Kept e) new = (new ≡ record old { disk = new.disk }) × (is_modelled → seen new.disk ≡ seen old.disk)
IsLostOrKept is_modelled seen old Lost new = new.is_broken ≡ true
