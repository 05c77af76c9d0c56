-- Private: which paths a router takes.
use Rattle.std.specs.Prelude.{ℕ, List, [], ◌∷◌, Bool, true, false, ◌&&◌, is_none, Result, Ok, Err}
use Rattle.matchit.specs.Route.{Scan, parse_route}
use Rattle.matchit.specs.Router.{RouteOf, nearest}
use Rattle.matchit.specs.Rows.{RowsOf}
use Rattle.matchit.specs.declared.error.InsertError.{InsertError}
use Rattle.reg_routes.specs.Router.{with_path}
use Rattle.reg_routes.specs.declared.route.Route.{Route}

-- the path reads, and no row conflicts with it
abbrev pub can_be_added : RowsOf (RouteOf Route) → List ℕ × Route → Bool
can_be_added rows path = is_free (parse_route path.0)
  where
    is_free : Result Scan InsertError → Bool
    is_free (Ok scanned) = is_none (nearest scanned.pattern rows)
    is_free (Err e) = false

-- each path can be added to the rows with those before it
abbrev pub all_can_be_added : RowsOf (RouteOf Route) → List (List ℕ × Route) → Bool
all_can_be_added rows [] = true
all_can_be_added rows (path ∷ paths) = can_be_added rows path && all_can_be_added (with_path rows path) paths
