-- What the definitions give for some requests.
use Rattle.std.proofs.Common.{◌≡◌, ◌∷◌, [], List, ℕ, true, false, Some, refl, codes}
use Rattle.std.specs.Str.{is_utf8, chars}
use lib.Utf8.{encode}
use Rattle.matchit.proofs.OnLiterals.{matchit_on_literals}
use Rattle.form_urlencoded.proofs.OnLiterals.{form_urlencoded_on_literals}
use Rattle.serde_json.proofs.OnLiterals.{serde_json_on_literals}
use Rattle.reg_leader.specs.reg_fold.declared.version_ref.VersionRef.TheVariants as versions
use Rattle.reg_leader.specs.declared.command.Command.TheVariants as commands
use Rattle.reg_lookup.specs.declared.query.Query.TheVariants as queries
use Rattle.reg_leader.specs.reg_refusals.declared.allow.Allow.TheVariants as allows
use Rattle.reg_leader.specs.reg_refusals.declared.reason.Reason.TheVariants as reasons
use Rattle.reg_leader.specs.reg_refusals.declared.refusal.Refusal.TheVariants as refusals
use Rattle.reg_routes.specs.Router.{path_rows, route_of}
use Rattle.reg_requests.specs.Asked.{asked_of}
use Rattle.reg_requests.specs.Body.{body_of}
use Rattle.reg_requests.specs.declared.asked.Asked.TheVariants as asked
use Rattle.reg_messages.specs.declared.request.Request.{Request}

request : List ℕ → List ℕ → List ℕ → Request
request method target body = record {
  method = method;
  target = target;
  fields = record { name = codes "Content-Length"; value = codes "9" } ∷ [];
  body = Some body;
}

a_query : asked_of (request (codes "GET") (codes "/subjects/a%2Fb/versions/latest") [])
    ≡ asked.Query (queries.Version (codes "a/b") versions.Latest false)
unfolding asked_of request matchit_on_literals route_of path_rows form_urlencoded_on_literals is_utf8 chars encode
a_query = refl

a_wrong_version : asked_of (request (codes "GET") (codes "/subjects/s/versions/2147483648") [])
    ≡ asked.Refused refusals.InvalidVersion false
unfolding asked_of request matchit_on_literals route_of path_rows form_urlencoded_on_literals is_utf8 chars encode
a_wrong_version = refl

a_wrong_method : asked_of (request (codes "PUT") (codes "/subjects") []) ≡ asked.Refused (refusals.MethodNotAllowed allows.Get) true
unfolding asked_of request matchit_on_literals route_of path_rows is_utf8 chars encode
a_wrong_method = refl

a_registration : asked_of (request (codes "POST") (codes "/subjects/s/versions") (codes "{\"schema\":\"\\\"int\\\"\",\"id\":-1}"))
    ≡ asked.Command (commands.Register (codes "s") (codes "\"int\""))
unfolding asked_of request matchit_on_literals route_of path_rows
    form_urlencoded_on_literals is_utf8 chars encode serde_json_on_literals body_of
a_registration = refl

a_version_without_id : asked_of (request (codes "POST") (codes "/subjects/s/versions") (codes "{\"schema\":\"x\",\"version\":2}"))
    ≡ asked.Refused (refusals.NotPermitted reasons.VersionNeedsImport) false
unfolding asked_of request matchit_on_literals route_of path_rows
    form_urlencoded_on_literals is_utf8 chars encode serde_json_on_literals body_of
a_version_without_id = refl
