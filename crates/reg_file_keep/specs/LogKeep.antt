-- The keep of a log that is served.
use Rattle.std.specs.Prelude.{◌≡◌, ⊤, List, if◌then◌else◌}
use Rattle.reg_pen.specs.declared.keep.Kept.{Kept}
use Rattle.reg_pen.specs.declared.keep.Kept.TheVariants.{Taken, Declined}
use Rattle.reg_pen.specs.declared.keep.Lack.TheVariants.{Numbers}
use Rattle.reg_pen.specs.Pen.{PenState}
use Rattle.reg_records.specs.declared.log.Log.{Log}
use Rattle.reg_records.specs.declared.record.Record.{Record}
use Rattle.reg_file_keep.specs.KeepState.{KeepState}
use Rattle.reg_file_keep.specs.Keeping.{is_mark}
use Rattle.reg_file_keep.specs.declared.log_keep.LogKeep.{LogKeep}
use Rattle.reg_file_keep.specs.declared.log_keep.LogKeep.TheVariants.{Open, Closed}

-- a keep that is closed takes the mark of ids that a topic begins with, and declines all else
abbrev pub closed_answer : List Record → Kept
closed_answer batch = if is_mark batch then Taken else (Declined Numbers)

-- what becomes of a batch: what the keep of the file does with it, which stays open; or the answer of one that is closed, which stays so
abbrev pub KeepsLog : {D : Type 0} → (KeepState D → List Record → Kept → KeepState D → Type 0) → LogKeep D → List Record → Kept → LogKeep D → Type 0
KeepsLog keeps (Open old) batch kept (Open new) = keeps old batch kept new
KeepsLog keeps Closed batch kept Closed = kept ≡ closed_answer batch
KeepsLog keeps _ batch kept _ = ⊥

-- an open keep stands at the end of the log
abbrev pub StandsAtLog : {D : Type 0} → (KeepState D → Log → Type 0) → LogKeep D → Log → Type 0
StandsAtLog stands (Open keep) log = stands keep log
StandsAtLog stands Closed log = ⊤

-- a keep that is open, of which that holds
abbrev pub IsOpen : {D : Type 0} → LogKeep D → (KeepState D → Type 0) → Type 0
IsOpen (Open keep) holds = holds keep
IsOpen Closed holds = ⊥

-- a pen over a log whose keep is open, as one over the keep of its file
abbrev pub as_file : {D : Type 0} → PenState (LogKeep D) → KeepState D → PenState (KeepState D)
as_file pen keep = record { published = pen.published; pending = pen.pending; lost = pen.lost; keep = keep }
