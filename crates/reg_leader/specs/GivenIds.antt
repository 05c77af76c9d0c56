-- Ids that were given away stay so.
use Rattle.std.specs.Prelude.{◌≡◌, ◌⊎◌, ◌≤◌, ◌<◌, ℕ, List, true, false}
use Rattle.std.specs.FinSet.{contains}
use Rattle.std.specs.List.{Contains}
use Rattle.reg_rules.specs.reg_entries.declared.entry.Entry.{Entry}
use Rattle.reg_rules.specs.reg_fold.Closed.{is_closed}
use Rattle.reg_rules.specs.reg_fold.Entries.{entries}
use Rattle.reg_rules.specs.reg_fold.IdMark.{id_mark}
use Rattle.reg_rules.specs.reg_records.declared.record.Record.{Record}
use Rattle.reg_rules.specs.reg_set.LastRecords.{last_records}
use Rattle.reg_rules.specs.reg_set.Records.{Records}
use Rattle.reg_leader.specs.StayOpen.{last_after}
use Rattle.reg_leader.specs.Step.{IsStep}
use Rattle.reg_leader.specs.declared.command.Command.{Command}
use Rattle.reg_leader.specs.declared.reply.Reply.{Reply}

-- the id was given to that schema: no entry has it with another one, and it has an entry or is at most the mark, so that it is given to no
-- other
pub record IsGiven (rs : Records) (id : ℕ) (normal : List ℕ) : Type 0 where
  pub no_other : (e : Entry) → Contains (entries rs) e → e.id ≡ id → e.normal ≡ normal
  pub is_kept : ((e : Entry) × Contains (entries rs) e × (e.id ≡ id)) ⊎ (id ≤ id_mark rs)

-- the id of an entry is given to its schema, in a registry that isn't closed
abbrev pub EntriesHaveGivenIds : Type 0
EntriesHaveGivenIds = (rs : Records) → is_closed rs ≡ false → (e : Entry) → Contains (entries rs) e → IsGiven rs e.id e.normal

-- all records have offsets below n
abbrev pub AreBelow : Records → ℕ → Type 0
AreBelow log n = (r : Record) → contains log r ≡ true → r.offset < n

-- what is given stays so when a step's batch is applied, at offsets above all others
abbrev pub StepsKeepGivenIds : Type 0
StepsKeepGivenIds = (log : Records) (n : ℕ) (c : Command) (reply : Reply) (batch : List Record)
    → is_closed (last_records log) ≡ false → AreBelow log n → IsStep (last_records log) n c reply batch
    → (id : ℕ) (normal : List ℕ) → IsGiven (last_records log) id normal → IsGiven (last_after log batch) id normal
