-- What a request asks, or the first of the tests that refuses it.
use Rattle.std.specs.Prelude.{ℕ, List, Bool, true, false, ◌&&◌, ◌||◌, not, bytes_eq, codes, Option, Some}
use Rattle.std.specs.Prelude.{None, option_and_then, unwrap_or, is_none, Result, Ok, Err, if◌then◌else◌}
use Rattle.std.specs.Option.{option_map_or}
use Rattle.serde_json.specs.Data.{Data, null}
use Rattle.reg_leader.specs.reg_fold.declared.version_ref.VersionRef.{VersionRef}
use Rattle.reg_messages.specs.Fields.{told_length}
use Rattle.reg_leader.specs.reg_refusals.declared.refusal.Refusal.{Refusal}
use Rattle.reg_leader.specs.reg_refusals.declared.refusal.Refusal.TheVariants as refusals
use Rattle.reg_requests.specs.Action.{Given, version_of, action_asks}
use Rattle.reg_requests.specs.Body.{body_of}
use Rattle.reg_requests.specs.declared.asked.Asked.{Asked}
use Rattle.reg_requests.specs.declared.asked.Asked.TheVariants as asked
use Rattle.reg_messages.specs.Parts.{Parts, parts_of}
use Rattle.reg_messages.specs.declared.request.Request.{Request}
use Rattle.reg_routes.specs.Router.{route_of}
use Rattle.reg_routes.specs.Routes.{action_of, allow_of, subject_place, number_place}
use Rattle.reg_routes.specs.Target.{is_path, path_of, query_of, text_part}
use Rattle.reg_routes.specs.declared.route.Action.{Action}
use Rattle.reg_routes.specs.declared.route.Route.{Route}
use Rattle.reg_routes.specs.declared.route.Route.TheVariants as routes

-- a refusal after which the server closes the connection, and one after which it doesn't
abbrev pub closing : Refusal → Asked
closing refusal = asked.Refused refusal true

abbrev pub open_refusal : Refusal → Asked
open_refusal refusal = asked.Refused refusal false

-- what comes of a value, or its refusal, which closes
abbrev pub or_closing : {A : Type 0} → (A → Asked) → Result A Refusal → Asked
or_closing f (Ok value) = f value
or_closing f (Err refusal) = closing refusal

-- what was found, or its refusal, which doesn't close
abbrev pub or_open : Result Asked Refusal → Asked
or_open (Ok found) = found
or_open (Err refusal) = open_refusal refusal

abbrev pub takes_body : List ℕ → Bool
takes_body method = bytes_eq method (codes "POST") || bytes_eq method (codes "PUT")

abbrev pub names_version : Route → Bool
names_version routes.Version = true
names_version routes.VersionSchema = true
names_version routes.CheckOne = true
names_version other = false

-- the JSON object of a body, `None` where it is not an object; a method that takes no body has null in its place
abbrev pub object_in : List ℕ → List ℕ → Option Data
object_in method body = if takes_body method then body_of body else Some null

-- the version that a path names, where its route has one
abbrev pub named_version : Route → Option (List ℕ) → Option VersionRef
named_version route number = if names_version route then option_and_then version_of number else None

abbrev pub given_of : Parts → Route → Option (List ℕ) → Option (List ℕ) → Data → Given
given_of r route subject number members = record {
  subject = subject;
  id = unwrap_or number (codes "");
  version = named_version route number;
  query = query_of r.target;
  object = members;
}

-- what an action asks, or the refusal of its members, which doesn't close
abbrev pub asked_of_object : Parts → Route → Action → Option (List ℕ) → Option (List ℕ) → Data → Asked
asked_of_object r route action subject number members = or_open (action_asks action (given_of r route subject number members))

-- the version is one, and the body is an object
abbrev pub asked_of_body : Parts → Route → Action → Option (List ℕ) → Option (List ℕ) → List ℕ → Asked
asked_of_body r route action subject number body =
    if names_version route && is_none (named_version route number) then open_refusal refusals.InvalidVersion
    else option_map_or (asked_of_object r route action subject number) (object_in r.method body) (closing refusals.BadRequest)

-- the input doesn't end in the body
abbrev pub asked_of_texts : Parts → Route → Action → Option (List ℕ) → Option (List ℕ) → Asked
asked_of_texts r route action subject number =
    option_map_or (asked_of_body r route action subject number) r.body (closing refusals.BadRequest)

-- the parts of the path are UTF-8
abbrev pub asked_of_parts : Parts → Route → Action → Asked
asked_of_parts r route action =
    or_closing (λ subject. or_closing (asked_of_texts r route action subject) (text_part (path_of r.target) (number_place route)))
    (text_part (path_of r.target) (subject_place route))

-- a length is stated, and the type is accepted, where the method takes a body
abbrev pub asked_of_action : Parts → Option ℕ → Route → Action → Asked
asked_of_action r told route action =
    if takes_body r.method && is_none told then closing refusals.LengthRequired
    else (if takes_body r.method && not r.is_accepted then closing refusals.UnsupportedMediaType
    else asked_of_parts r route action)

-- the method is offered
abbrev pub asked_of_route : Parts → Option ℕ → Route → Asked
asked_of_route r told route =
    option_map_or (asked_of_action r told route) (action_of route r.method) (closing (refusals.MethodNotAllowed (allow_of route)))

-- the target is a path, and the registry has it
abbrev pub asked_of_target : Parts → Option ℕ → Asked
asked_of_target r told =
    if not (is_path r.target) then closing refusals.BadRequest
    else option_map_or (asked_of_route r told) (route_of (path_of r.target)) (closing refusals.NotFound)

-- what a request asks, or the refusal of the first test that it fails
unfoldable pub asked_of : Request → Asked
asked_of r = or_closing (asked_of_target (parts_of r)) (told_length r.fields)
