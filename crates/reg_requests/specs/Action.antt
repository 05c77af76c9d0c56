-- What a request asks, once its path, its method and its body are known.
use Rattle.std.specs.Prelude.{ℕ, List, Bool, ◌&&◌, ◌||◌, nat_lt, nat_le, length, bytes_eq, codes}
use Rattle.std.specs.Prelude.{Option, Some, None, ok_or, option_map, Result, Ok, if◌then◌else◌}
use Rattle.std.specs.Char.{is_ascii_digit}
use Rattle.std.specs.List.{list_all}
use Rattle.std.specs.Option.{option_map_or}
use Rattle.std.specs.Str.Parse.{digits_value}
use Rattle.serde_json.specs.Data.{Data}
use Rattle.reg_leader.specs.reg_fold.declared.version_ref.VersionRef.{VersionRef}
use Rattle.reg_leader.specs.reg_fold.declared.version_ref.VersionRef.TheVariants as versions
use Rattle.reg_leader.specs.declared.command.Command.TheVariants as commands
use Rattle.reg_lookup.specs.declared.query.Query.{Query}
use Rattle.reg_lookup.specs.declared.query.Query.TheVariants as queries
use Rattle.reg_leader.specs.reg_records.Json.{within_number_limit}
use Rattle.reg_leader.specs.reg_refusals.declared.refusal.Refusal.{Refusal}
use Rattle.reg_leader.specs.reg_refusals.declared.refusal.Refusal.TheVariants as refusals
use Rattle.reg_requests.specs.Body.{map_ok, schema_in, registration_in, level_in, mode_in}
use Rattle.reg_requests.specs.declared.asked.Asked.{Asked}
use Rattle.reg_requests.specs.declared.asked.Asked.TheVariants as asked
use Rattle.reg_routes.specs.Query.{has_switch}
use Rattle.reg_routes.specs.declared.route.Action.{Action}
use Rattle.reg_routes.specs.declared.route.Action.TheVariants as actions

-- the number that 1 to 10 digits spell, within the limit of versions and ids
abbrev pub number_of : List ℕ → Option ℕ
number_of text =
    if nat_lt 0 (length text) && nat_le (length text) 10 && list_all is_ascii_digit text
    then within_number_limit (digits_value 10 text) else None

-- the version that a part of a path names
abbrev pub version_of : List ℕ → Option VersionRef
version_of text =
    if bytes_eq text (codes "latest") || bytes_eq text (codes "-1") then Some versions.Latest
    else option_map versions.Number (number_of text)

-- what the parts of a path, the query and the body say to an action
pub record Given : Type 0 where
  -- where the path has one
  pub subject : Option (List ℕ)
  -- the part that is an id; empty where the path has none
  pub id : List ℕ
  -- where the path has one
  pub version : Option VersionRef
  pub query : List ℕ
  pub object : Data

-- the switch stands in the query
abbrev pub switch : Given → List ℕ → Bool
switch given name = has_switch name given.query

abbrev pub deleted : Given → Bool
deleted given = switch given (codes "deleted")

-- the subject and the version of a path that has both
abbrev pub subject_in : Given → List ℕ
subject_in given = option_map_or (λ s. s) given.subject (codes "")

abbrev pub version_ref : Given → VersionRef
version_ref given = option_map_or (λ v. v) given.version versions.Latest

-- a query about the id that is given
abbrev pub by_id : Given → (ℕ → Query) → Result Asked Refusal
by_id given q = ok_or (option_map (λ id. asked.Query (q id)) (number_of given.id)) refusals.SchemaNotFound

-- what an action asks
abbrev pub action_asks : Action → Given → Result Asked Refusal
action_asks actions.SchemaById given = by_id given (λ id. queries.SchemaById id)
action_asks actions.IdVersions given = by_id given (λ id. queries.IdVersions id (deleted given))
action_asks actions.Subjects given = Ok (asked.Query (queries.Subjects (deleted given)))
action_asks actions.Lookup given = map_ok (λ text. asked.Query (queries.Lookup (subject_in given) text (deleted given)))
    (schema_in given.object)
action_asks actions.DeleteSubject given = Ok (asked.Command (commands.DeleteSubject (subject_in given) (switch given (codes "permanent"))))
action_asks actions.Versions given = Ok (asked.Query (queries.Versions (subject_in given) (deleted given)))
action_asks actions.Register given = map_ok asked.Command (registration_in (subject_in given) given.object)
action_asks actions.Version given = Ok (asked.Query (queries.Version (subject_in given) (version_ref given) (deleted given)))
action_asks actions.DeleteVersion given = Ok
    (asked.Command (commands.DeleteVersion (subject_in given) (version_ref given) (switch given (codes "permanent"))))
action_asks actions.VersionSchema given = Ok (asked.Query (queries.VersionSchema (subject_in given) (version_ref given) (deleted given)))
action_asks actions.Check given = map_ok
    (λ text. asked.Query (queries.Check (subject_in given) given.version text (switch given (codes "verbose"))))
    (schema_in given.object)
action_asks actions.Level given = Ok (asked.Query (queries.Level given.subject (switch given (codes "defaultToGlobal"))))
action_asks actions.SetLevel given = map_ok (λ level. asked.Command (commands.SetLevel given.subject level)) (level_in given.object)
action_asks actions.ClearLevel given = Ok (asked.Command (commands.ClearLevel (subject_in given)))
action_asks actions.Mode given = Ok (asked.Query (queries.Mode given.subject (switch given (codes "defaultToGlobal"))))
action_asks actions.SetMode given = map_ok
    (λ mode. asked.Command (commands.SetMode given.subject mode (switch given (codes "force")))) (mode_in given.object)
action_asks actions.ClearMode given = Ok (asked.Command (commands.ClearMode (subject_in given)))
