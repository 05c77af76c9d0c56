-- A registry that isn't closed stays so.
use Rattle.std.specs.Prelude.{◌≡◌, ℕ, List, false}
use Rattle.std.specs.FinSet.{from_list, union}
use Rattle.std.specs.List.{Contains}
use Rattle.reg_rules.specs.reg_entries.declared.entry.Entry.{Entry}
use Rattle.reg_rules.specs.reg_fold.Closed.{is_closed}
use Rattle.reg_rules.specs.reg_fold.Entries.{entries}
use Rattle.reg_rules.specs.reg_records.declared.record.Record.{Record}
use Rattle.reg_rules.specs.reg_set.LastRecords.{last_records}
use Rattle.reg_rules.specs.reg_set.RecordOrder.{record_cmp}
use Rattle.reg_rules.specs.reg_set.Records.{Records}
use Rattle.reg_leader.specs.Step.{IsStep}
use Rattle.reg_leader.specs.declared.command.Command.{Command}
use Rattle.reg_leader.specs.declared.reply.Reply.{Reply}

-- any two entries of one id have one normal text
abbrev pub IdsNameOneSchema : Records → Type 0
IdsNameOneSchema rs = (e f : Entry) → Contains (entries rs) e → Contains (entries rs) f → e.id ≡ f.id → e.normal ≡ f.normal

-- the last records once the batch has joined the log
abbrev pub last_after : Records → List Record → Records
last_after log batch = last_records (union log (from_list {R = record_cmp} batch))

-- a registry that isn't closed stays so when a step's batch is applied, whatever the next offset is
abbrev pub StepsStayOpen : Type 0
StepsStayOpen = (log : Records) (n : ℕ) (c : Command) (reply : Reply) (batch : List Record)
    → is_closed (last_records log) ≡ false → IsStep (last_records log) n c reply batch → is_closed (last_after log batch) ≡ false

-- so an id names one schema after it
abbrev pub StepsKeepIds : Type 0
StepsKeepIds = (log : Records) (n : ℕ) (c : Command) (reply : Reply) (batch : List Record)
    → is_closed (last_records log) ≡ false → IsStep (last_records log) n c reply batch → IdsNameOneSchema (last_after log batch)
