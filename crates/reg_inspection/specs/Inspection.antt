-- What an inspection of a log says.
use Rattle.std.specs.Prelude.{◌≡◌, ℕ, List, Bool, Ok, Option, string_bytes}
use Rattle.std.specs.Io.KnownBytes.{Appends}
use Rattle.reg_fold.specs.reg_records.Log.{LogText, log_of, next_of, records_in}
use Rattle.reg_fold.specs.reg_records.declared.record.Read.{Read}
use Rattle.reg_inspection.specs.Counts.{counts_of, lasts_in, mark_due}
use Rattle.reg_inspection.specs.Foreign.{foreign_tally}
use Rattle.reg_inspection.specs.Obstacles.{can_begin, obstacles}
use Rattle.reg_inspection.specs.Report.{report_text}
use Rattle.reg_inspection.specs.declared.inspecting.Description.{Description}
use Rattle.reg_inspection.specs.declared.inspection.Inspection.{Inspection}

-- the counts, the mark that is due, the foreign lines and the obstacles of the log that a text is, whose lines say that floor and this
pub record IsInspectionOf (text : List ℕ) (floor : ℕ) (read : List Read) (found : Inspection) : Type 0 where
  pub counts : found.counts ≡ counts_of floor read
  pub due : found.due ≡ mark_due (records_in read)
  pub foreign : found.foreign.entries ≡ foreign_tally text
  pub obstacles : found.obstacles.items ≡ obstacles (lasts_in read) (next_of floor read)

-- what is written of that log
abbrev pub report_of : List ℕ → ℕ → List Read → List ℕ
report_of text floor read =
    report_text (counts_of floor read) (mark_due (records_in read)) (foreign_tally text) (obstacles (lasts_in read) (next_of floor read))

-- whether a topic can begin with what its lines say
abbrev pub is_servable : ℕ → List Read → Bool
is_servable floor read = can_begin (lasts_in read) (next_of floor read)

-- Private: the text for a log, and whether it is taken over
pub record Describes (text : List ℕ) (found : Description) : Type 0 where
  pub log : LogText
  pub read : log_of text ≡ Ok log
  pub said : string_bytes found.text ≡ report_of text log.floor log.reads
  pub servable : found.servable ≡ is_servable log.floor log.reads

-- the input is a log whose report was written, and the answer is whether it is taken over
pub record Reports (input : List ℕ) (servable : Bool) (old new : Option (List ℕ)) : Type 0 where
  pub log : LogText
  pub read : log_of input ≡ Ok log
  pub written : Appends old new (report_of input log.floor log.reads)
  pub answer : servable ≡ is_servable log.floor log.reads
