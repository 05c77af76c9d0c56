-- What a command comes to: the refusal of the first test that it fails, or a reply and what is written.
use Rattle.std.specs.Prelude.{◌≡◌, ◌⊎◌, ℕ, suc, ◌+◌, ◌++◌, List, [], Bool, true, false, nat_le, length, codes, Option, Some, None, Ok, Err}
use Rattle.reg_rules.specs.reg_level_names.declared.level.Level.{Level}
use Rattle.reg_rules.specs.reg_levels.Texts.{VersionText, TextsMeet}
use Rattle.reg_rules.specs.reg_modes.Permitted.{Permit}
use Rattle.reg_rules.specs.reg_records.declared.limits.TheConstants.{OFFSET_LIMIT}
use Rattle.reg_rules.specs.reg_records.declared.record.Record.{Record}
use Rattle.reg_rules.specs.reg_refusals.declared.reason.StoreFault.TheVariants as faults
use Rattle.reg_rules.specs.reg_refusals.declared.refusal.Refusal.{Refusal}
use Rattle.reg_rules.specs.reg_refusals.declared.refusal.Refusal.TheVariants as refusals
use Rattle.reg_leader.specs.declared.reply.Reply.{Reply}
use Rattle.reg_leader.specs.declared.reply.Reply.TheVariants as replies
use Rattle.reg_rules.specs.Report.{IsClash}
use Rattle.reg_rules.specs.Writings.{numbered}
use Rattle.reg_rules.specs.declared.writing.Writing.{Writing}

-- IfMet: where the schema of that text meets the level against the old versions, the rest follows
pub data Course : Type 0 where
  Refused : Refusal → Course
  Does : Reply → List Writing → Course
  IfMet : Level → List ℕ → List VersionText → Course → Course

-- A test gives its refusal where it fails, and the rest follows where it doesn't. So a command reads
-- as the list of its tests, in their order, and what it does once none fails.
infixr 20 ◌▸◌
abbrev pub ◌▸◌ : Permit → Course → Course
(Ok _) ▸ rest = rest
(Err refusal) ▸ rest = Refused refusal

-- what is done with the thing that was found, or what else
abbrev pub where_found : {A : Type 0} → Option A → (A → Course) → Course → Course
where_found None found else = else
where_found (Some x) found else = found x

-- the batch, unless an offset in it would pass the limit: the last test of every command
abbrev pub if_offsets_last : Bool → Reply → List Record → Reply × List Record
if_offsets_last true reply batch = (reply, batch)
if_offsets_last false reply batch = (replies.Refused (refusals.Store faults.NumbersUsedUp), [])

-- the reply is that refusal, and nothing is written
abbrev pub IsRefused : Refusal → Reply → List Record → Type 0
IsRefused refusal reply batch = (reply ≡ replies.Refused refusal) × (batch ≡ [])

abbrev pub incompatible : List ℕ → Refusal
incompatible message = refusals.Incompatible (codes "Incompatible with " ++ message)

-- what is replied, and the records that are written from the offset n on; of a level that isn't met the first clash is reported
abbrev pub IsOutcome : ℕ → Course → Reply → List Record → Type 0
IsOutcome n (Refused refusal) reply batch = IsRefused refusal reply batch
IsOutcome n (Does does ws) reply batch = if_offsets_last (nat_le (n + length ws) (suc OFFSET_LIMIT)) does (numbered n ws) ≡ (reply, batch)
IsOutcome n (IfMet level new olds rest) reply batch =
    (TextsMeet level new olds × IsOutcome n rest reply batch)
    ⊎ ((message : List ℕ) × IsClash level new olds message × IsRefused (incompatible message) reply batch)
