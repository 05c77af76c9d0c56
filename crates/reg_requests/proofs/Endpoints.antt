-- What a request asks, once it is known where it goes.
use Rattle.std.proofs.Common.{◌≡◌, ℕ, List, Bool, true, false, Some, None, refl}
use Rattle.std.specs.Prelude.{Ok, Option, not, if◌then◌else◌}
use Rattle.std.specs.Option.{option_map_or}
use Rattle.reg_routes.specs.Endpoint.{endpoint_of, endpoint_on, nowhere}
use Rattle.reg_routes.specs.Router.{route_of}
use Rattle.reg_routes.specs.Routes.{action_of}
use Rattle.reg_routes.specs.Target.{is_path, path_of}
use Rattle.reg_routes.specs.declared.route.Route.{Route}
use Rattle.reg_leader.specs.reg_refusals.declared.refusal.Refusal.TheVariants as refusals
use Rattle.reg_messages.specs.Fields.{told_length}
use Rattle.reg_messages.specs.Parts.{Parts, parts_of}
use Rattle.reg_messages.specs.declared.request.Request.{Request}
use Rattle.reg_requests.specs.Asked.{asked_of, asked_of_route, asked_of_target, closing}
use Rattle.reg_requests.specs.declared.asked.Asked.{Asked}

-- what the route and the action of an endpoint are
endpoint-some : (method : List ℕ) (p : Bool) (found : Option Route) (route : Route) (f : Route → Asked) (b n : Asked)
    → (if p then endpoint_on method found else nowhere).route ≡ Some route
    → ((if not p then b else option_map_or f found n) ≡ f route) × ((if p then endpoint_on method found else nowhere).action ≡ action_of route method)
endpoint-some method false found route f b n is = absurd (cc)
endpoint-some method true None route f b n is = absurd (cc)
endpoint-some method true (Some other) route f b n is = (let same : other ≡ route = cc in (rw same refl, rw same refl))

endpoint-none : (method : List ℕ) (p : Bool) (found : Option Route) (f : Route → Asked) (b n : Asked)
    → (if p then endpoint_on method found else nowhere).route ≡ None
    → (if p then n else b) ≡ (if not p then b else option_map_or f found n)
endpoint-none method false found f b n is = refl
endpoint-none method true None f b n is = refl
endpoint-none method true (Some other) f b n is = absurd (cc)

-- the target names the route
pub asked-at_route : (r : Parts) (told : Option ℕ) (route : Route) → (endpoint_of r.method r.target).route ≡ Some route
    → (asked_of_target r told ≡ asked_of_route r told route) × ((endpoint_of r.method r.target).action ≡ action_of route r.method)
asked-at_route r told route is =
    endpoint-some r.method (is_path r.target) (route_of (path_of r.target)) route (asked_of_route r told) (closing refusals.BadRequest)
    (closing refusals.NotFound) is

-- the target names no path
pub asked-nowhere : (r : Parts) (told : Option ℕ) → (endpoint_of r.method r.target).route ≡ None
    → (if is_path r.target then closing refusals.NotFound else closing refusals.BadRequest) ≡ asked_of_target r told
asked-nowhere r told is =
    endpoint-none r.method (is_path r.target) (route_of (path_of r.target)) (asked_of_route r told) (closing refusals.BadRequest)
    (closing refusals.NotFound) is

-- what a request asks whose length isn't refused
pub asked-told : (r : Request) (told : Option ℕ) → told_length r.fields ≡ Ok told → asked_of r ≡ asked_of_target (parts_of r) told
unfolding asked_of
asked-told r told is = rw is refl
