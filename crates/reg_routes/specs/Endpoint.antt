-- Where a request goes, by its method and its target.
use Rattle.std.specs.Prelude.{ℕ, List, Option, Some, None, if◌then◌else◌}
use Rattle.reg_routes.specs.Router.{route_of}
use Rattle.reg_routes.specs.Routes.{action_of}
use Rattle.reg_routes.specs.Target.{is_path, path_of}
use Rattle.reg_routes.specs.declared.endpoint.Endpoint.{Endpoint}
use Rattle.reg_routes.specs.declared.route.Route.{Route}

-- that of a target which names no path of the registry
abbrev pub nowhere : Endpoint
nowhere = record { route = None; action = None }

-- a path, and what the method asks of it
abbrev pub endpoint_on : List ℕ → Option Route → Endpoint
endpoint_on method None = nowhere
endpoint_on method (Some route) = record { route = Some route; action = action_of route method }

abbrev pub endpoint_of : List ℕ → List ℕ → Endpoint
endpoint_of method target = if is_path target then endpoint_on method (route_of (path_of target)) else nowhere
