-- Lookups that may miss what others just wrote.
use Rattle.std.specs.Prelude.{Bool, true, false, ◌&&◌, eqb, is_some}
use Rattle.reg_lookup.specs.declared.answered.Answer.{Answer}
use Rattle.reg_lookup.specs.declared.query.Query.{Query}
use Rattle.reg_lookup.specs.declared.query.Query.TheVariants as queries

-- the query asks for one id, or for one version
abbrev pub asks_for_one : Query → Bool
asks_for_one (queries.SchemaById id) = true
asks_for_one (queries.IdVersions id deleted) = true
asks_for_one (queries.Subjects deleted) = false
asks_for_one (queries.Lookup subject text deleted) = true
asks_for_one (queries.Versions subject deleted) = false
asks_for_one (queries.Version subject which deleted) = true
asks_for_one (queries.VersionSchema subject which deleted) = true
asks_for_one (queries.Check subject which text verbose) = is_some which
asks_for_one (queries.Level subject default_global) = false
asks_for_one (queries.Mode subject default_global) = false

-- that wasn't found, so others may just have written it
abbrev pub may_be_hidden : Query → Answer → Bool
may_be_hidden q a = eqb a.status 404 && asks_for_one q
