-- Which path of the registry a path is.
use Rattle.std.specs.Prelude.{ℕ, List, [], fold, Option, option_map, Result, Ok, Err}
use Rattle.matchit.specs.Order.{placed}
use Rattle.matchit.specs.Route.{Scan, parse_route}
use Rattle.matchit.specs.Router.{RouteOf, route_from}
use Rattle.matchit.specs.Rows.{RowsOf}
use Rattle.matchit.specs.Seek.{first}
use Rattle.matchit.specs.declared.error.InsertError.{InsertError}
use Rattle.reg_routes.specs.Routes.{paths}
use Rattle.reg_routes.specs.declared.route.Route.{Route}

-- the rows of a router with one more path
abbrev pub with_path : RowsOf (RouteOf Route) → List ℕ × Route → RowsOf (RouteOf Route)
with_path rows (text, route) = placed_read (parse_route text)
  where
    placed_read : Result Scan InsertError → RowsOf (RouteOf Route)
    placed_read (Ok path) = placed (path.pattern, route_from path route) rows
    placed_read (Err e) = rows

-- the rows of a router of all paths, added in the order of the table
unfoldable pub path_rows : RowsOf (RouteOf Route)
path_rows = fold with_path [] paths

-- the row of the table that a path fits, as `matchit` finds it
unfoldable pub route_of : List ℕ → Option Route
route_of path = option_map (λ found. found.value) (first path_rows path)
