-- Why a filter ends before its end.
use Rattle.std.specs.Prelude.{◌≡◌, ⊤, ℕ, List, ◌++◌, codes, decimal, Option, IfSome, Result, Ok, Err}
use Rattle.std.specs.Io.KnownBytes.{Keeps}
use Rattle.std.specs.declared.io.Error.{Error}
use Rattle.reg_records.specs.Errors.{at_line, log_fault_name}
use Rattle.reg_records.specs.Log.{log_of}
use Rattle.reg_records.specs.declared.log.LogError.{LogError}
use Rattle.reg_records.specs.declared.log.LogError.TheVariants as logs
use Rattle.reg_compaction.specs.CompactedTo.{IsToFloorRefusal}
use Rattle.reg_compaction.specs.Whole.{IsCut}
use Rattle.reg_compaction.specs.declared.filter.FilterError.{FilterError}
use Rattle.reg_compaction.specs.declared.filter.FilterError.TheVariants.{Log, ReadFault}
use Rattle.reg_compaction.specs.declared.filter.FilterError.TheVariants.{WriteFault}
use Rattle.reg_compaction.specs.declared.filter.FilterError.TheVariants.{FloorBelow}
use Rattle.reg_compaction.specs.declared.filter.FilterError.TheVariants.{FloorAhead}
use Rattle.reg_compaction.specs.declared.filter.FilterError.TheVariants.{NoRoom, Cut, OutOfMemory}
use Rattle.reg_compaction.specs.declared.to_floor.ToFloorError.{ToFloorError}
use Rattle.reg_compaction.specs.declared.to_floor.ToFloorError.TheVariants as floors

-- the writer's last call was a flush, which was Ok
abbrev pub IsFlushed : {W : Type 0} → (W → Option (List ℕ)) → (W → Result ⊤ Error → W → Type 0) → W → Type 0
IsFlushed {W} contents flushes new = (before : W) × flushes before (Ok tt) new × Keeps (contents before) (contents new)

-- a fault is the first of the log's, and nothing was written then, nor where the reader failed or memory was refused
abbrev pub IsFilterRefusal : Option (List ℕ) → Option (List ℕ) → Option (List ℕ) → FilterError → Type 0
IsFilterRefusal input old new (Log line fault) = IfSome input (λ text. log_of text ≡ Err (line, fault)) × Keeps old new
IsFilterRefusal input old new ReadFault = Keeps old new
IsFilterRefusal input old new WriteFault = ⊤
IsFilterRefusal input old new (FloorBelow own) = ⊥
IsFilterRefusal input old new (FloorAhead next) = ⊥
IsFilterRefusal input old new NoRoom = ⊥
IsFilterRefusal input old new Cut = IfSome input IsCut × Keeps old new
IsFilterRefusal input old new OutOfMemory = Keeps old new

-- so where a log is compacted to a floor; one that it can't have is reported, and nothing was written then
abbrev pub IsFilterRefusalTo : ℕ → Option (List ℕ) → Option (List ℕ) → Option (List ℕ) → FilterError → Type 0
IsFilterRefusalTo floor input old new (Log line fault) = IsFilterRefusal input old new (Log line fault)
IsFilterRefusalTo floor input old new ReadFault = IsFilterRefusal input old new ReadFault
IsFilterRefusalTo floor input old new WriteFault = IsFilterRefusal input old new WriteFault
IsFilterRefusalTo floor input old new (FloorBelow own) = IfSome input (λ text. IsToFloorRefusal text floor (floors.FloorBelow own))
    × Keeps old new
IsFilterRefusalTo floor input old new (FloorAhead next) = IfSome input (λ text. IsToFloorRefusal text floor (floors.FloorAhead next))
    × Keeps old new
IsFilterRefusalTo floor input old new NoRoom = IfSome input (λ text. IsToFloorRefusal text floor floors.NoRoom) × Keeps old new
IsFilterRefusalTo floor input old new Cut = IsFilterRefusal input old new Cut
IsFilterRefusalTo floor input old new OutOfMemory = IsFilterRefusal input old new OutOfMemory

-- the reader failed, memory was refused, or the input is cut; a fault of its log may be met then
abbrev pub IsNoReading : Option (List ℕ) → FilterError → Type 0
IsNoReading input (Log line fault) = IfSome input (λ text. log_of text ≡ Err (line, fault))
IsNoReading input ReadFault = ⊤
IsNoReading input WriteFault = ⊥
IsNoReading input (FloorBelow own) = ⊥
IsNoReading input (FloorAhead next) = ⊥
IsNoReading input NoRoom = ⊥
IsNoReading input Cut = IfSome input IsCut
IsNoReading input OutOfMemory = ⊤

abbrev pub filter_error_of : LogError → FilterError
filter_error_of (logs.Fault line fault) = Log line fault
filter_error_of (logs.ReadFault line) = ReadFault
filter_error_of logs.OutOfMemory = OutOfMemory

abbrev pub filter_error_to : ToFloorError → FilterError
filter_error_to (floors.Log e) = filter_error_of e
filter_error_to (floors.FloorBelow own) = FloorBelow own
filter_error_to (floors.FloorAhead next) = FloorAhead next
filter_error_to floors.NoRoom = NoRoom

-- its text
abbrev pub filter_error_text : FilterError → List ℕ
filter_error_text (Log line fault) = at_line line (log_fault_name fault)
filter_error_text ReadFault = codes "ReadFault"
filter_error_text WriteFault = codes "WriteFault"
filter_error_text (FloorBelow own) = codes "below the floor " ++ decimal own
filter_error_text (FloorAhead next) = codes "ahead of the next offset " ++ decimal next
filter_error_text NoRoom = codes "no room for the floor"
filter_error_text Cut = codes "the line behind the log says another end: a part is missing"
filter_error_text OutOfMemory = codes "OutOfMemory"

-- the exit status of a program that ends with it
abbrev pub exit_status : FilterError → ℕ
exit_status (Log line fault) = 2
exit_status ReadFault = 1
exit_status WriteFault = 1
exit_status (FloorBelow own) = 2
exit_status (FloorAhead next) = 2
exit_status NoRoom = 2
exit_status Cut = 2
exit_status OutOfMemory = 1
