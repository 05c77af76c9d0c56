-- The answer to a query where rs are the last records.
use Rattle.std.specs.Prelude.{◌≡◌, ◌↔◌, Ok, Some}
use Rattle.reg_modes.specs.reg_set.Compaction.{KeepsLasts}
use Rattle.reg_modes.specs.reg_set.LastRecords.{last_records}
use Rattle.reg_modes.specs.reg_set.Records.{Records}
use Rattle.reg_modes.specs.reg_fold.Entries.{entries}
use Rattle.reg_modes.specs.reg_fold.InForce.{level}
use Rattle.reg_lookup.specs.declared.answered.Answer.{Answer}
use Rattle.reg_lookup.specs.declared.query.Query.{Query}
use Rattle.reg_lookup.specs.declared.query.Query.TheVariants as queries
use Rattle.reg_lookup.specs.Bodies.{answer_with}
use Rattle.reg_lookup.specs.ById.{schema_by_id, id_versions}
use Rattle.reg_lookup.specs.BySubject.{subjects, versions, version, version_schema}
use Rattle.reg_lookup.specs.BySchema.{lookup}
use Rattle.reg_lookup.specs.Checked.{asked, TellsVerdict}
use Rattle.reg_lookup.specs.Settings.{level_found, mode_found}

-- the answer of each query
abbrev pub IsAnswer : Records → Query → Answer → Type 0
IsAnswer rs (queries.SchemaById id) a = a ≡ answer_with (schema_by_id rs id)
IsAnswer rs (queries.IdVersions id deleted) a = a ≡ answer_with (id_versions (entries rs) id deleted)
IsAnswer rs (queries.Subjects deleted) a = a ≡ answer_with (Ok (subjects (entries rs) deleted))
IsAnswer rs (queries.Lookup subject text deleted) a = a ≡ answer_with (lookup (entries rs) subject text deleted)
IsAnswer rs (queries.Versions subject deleted) a = a ≡ answer_with (versions (entries rs) subject deleted)
IsAnswer rs (queries.Version subject which deleted) a = a ≡ answer_with (version (entries rs) subject which deleted)
IsAnswer rs (queries.VersionSchema subject which deleted) a = a ≡ answer_with (version_schema (entries rs) subject which deleted)
IsAnswer rs (queries.Check subject which text verbose) a =
    TellsVerdict (level rs (Some subject)) text verbose (asked (entries rs) subject which text) a
IsAnswer rs (queries.Level subject default_global) a = a ≡ answer_with (level_found rs subject default_global)
IsAnswer rs (queries.Mode subject default_global) a = a ≡ answer_with (mode_found rs subject default_global)

-- a query has one answer
abbrev pub HaveOneAnswer : Type 0
HaveOneAnswer = (rs : Records) (query : Query) (a b : Answer) → IsAnswer rs query a → IsAnswer rs query b → a ≡ b

-- the answer over a set of records
abbrev pub IsAnswerOver : Records → Query → Answer → Type 0
IsAnswerOver set query a = IsAnswer (last_records set) query a

-- a set and each part that keeps its last records answer alike
abbrev pub KeepingLastsAnswersAlike : Type 0
KeepingLastsAnswersAlike = (part whole : Records) → KeepsLasts part whole → (query : Query) (a : Answer)
    → IsAnswerOver part query a ↔ IsAnswerOver whole query a
