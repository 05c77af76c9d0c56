-- Where two sets of last records give the same, what a query's answer rests on is the same.
use Rattle.std.proofs.Common.{◌≡◌, Bool, true, false, Some, None, Ok, subst, sym}
use Rattle.std.specs.Option.{ok_or}
use Rattle.reg_leader.specs.reg_entries.Sought as sought
use Rattle.reg_leader.specs.reg_level_names.Level.{level_text}
use Rattle.reg_leader.specs.reg_modes.Mode.{mode_text}
use Rattle.reg_leader.specs.reg_refusals.declared.refusal.Refusal.TheVariants.{SchemaNotFound, SubjectHasNoLevel, SubjectHasNoMode}
use Rattle.reg_leader.specs.reg_set.Records.{Records}
use Rattle.reg_leader.specs.reg_fold.InForce.{Scope}
use Rattle.reg_lookup.specs.Answers.{IsAnswer}
use Rattle.reg_lookup.specs.Bodies.{answer_with, level_body, mode_body, schema_body}
use Rattle.reg_lookup.specs.ById.{id_versions}
use Rattle.reg_lookup.specs.BySchema.{lookup}
use Rattle.reg_lookup.specs.BySubject.{subjects, version, version_schema, versions}
use Rattle.reg_lookup.specs.Checked.{TellsVerdict, asked}
use Rattle.reg_lookup.specs.Found.{found_map}
use Rattle.reg_lookup.specs.Settings.{level_if_any, mode_if_any}
use Rattle.reg_lookup.specs.declared.answered.Answer.{Answer}
use Rattle.reg_lookup.specs.declared.query.Query.{Query}
use Rattle.reg_lookup.specs.declared.query.Query.TheVariants as queries
use Rattle.reg_alike.specs.AnswerAlike.{AlikeAnswersAlike}
use Rattle.reg_leader.specs.reg_fold.GiveAlike.{GiveAlike}
use Rattle.reg_alike.proofs.InForce.{same_level, same_mode, same_own_mode}

module _ (rs ss : Records) (alike : GiveAlike rs ss) where
  open alike use {entries_alike, levels_alike}

  same_level_if_any : (scope : Scope) (default_global : Bool) → level_if_any rs scope default_global ≡ level_if_any ss scope default_global
  same_level_if_any None default_global = λ i. Some (same_level rs ss alike None i)
  same_level_if_any (Some subject) true = λ i. Some (same_level rs ss alike (Some subject) i)
  same_level_if_any (Some subject) false = levels_alike (Some subject)

  same_mode_if_any : (scope : Scope) (default_global : Bool) → mode_if_any rs scope default_global ≡ mode_if_any ss scope default_global
  same_mode_if_any None default_global = λ i. Some (same_mode rs ss alike None i)
  same_mode_if_any (Some subject) true = λ i. Some (same_mode rs ss alike (Some subject) i)
  same_mode_if_any (Some subject) false = same_own_mode rs ss alike (Some subject)

  same_answers : (query : Query) (a : Answer) → IsAnswer rs query a ≡ IsAnswer ss query a
  same_answers (queries.SchemaById id) a =
      λ i. a ≡ answer_with (found_map (λ e. schema_body e.text) (ok_or (sought.named (entries_alike i) id) SchemaNotFound))
  same_answers (queries.IdVersions id deleted) a = λ i. a ≡ answer_with (id_versions (entries_alike i) id deleted)
  same_answers (queries.Subjects deleted) a = λ i. a ≡ answer_with (Ok (subjects (entries_alike i) deleted))
  same_answers (queries.Lookup subject text deleted) a = λ i. a ≡ answer_with (lookup (entries_alike i) subject text deleted)
  same_answers (queries.Versions subject deleted) a = λ i. a ≡ answer_with (versions (entries_alike i) subject deleted)
  same_answers (queries.Version subject which deleted) a = λ i. a ≡ answer_with (version (entries_alike i) subject which deleted)
  same_answers (queries.VersionSchema subject which deleted) a =
      λ i. a ≡ answer_with (version_schema (entries_alike i) subject which deleted)
  same_answers (queries.Check subject which text verbose) a =
      λ i. TellsVerdict (same_level rs ss alike (Some subject) i) text verbose (asked (entries_alike i) subject which text) a
  same_answers (queries.Level subject default_global) a =
      let found = same_level_if_any subject default_global in
      λ i. a ≡ answer_with (found_map (λ l. level_body (level_text l)) (ok_or (found i) SubjectHasNoLevel))
  same_answers (queries.Mode subject default_global) a =
      let found = same_mode_if_any subject default_global in
      λ i. a ≡ answer_with (found_map (λ m. mode_body (mode_text m)) (ok_or (found i) SubjectHasNoMode))

pub alike_answers_alike : AlikeAnswersAlike
alike_answers_alike rs ss alike query a =
    let same = same_answers rs ss alike query a in
    (subst (λ A. A) same, subst (λ A. A) (sym same))
