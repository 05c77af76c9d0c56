-- A GET takes no turn, whatever its path.
use Rattle.std.proofs.Common.{◌≡◌, List, ℕ, Bool, true, false, Some, None, if◌then◌else◌, refl}
use Rattle.std.specs.Prelude.{Option, codes, option_and_then}
use Rattle.reg_routes.specs.Router.{route_of}
use Rattle.reg_routes.specs.Target.{is_path, path_of}
use Rattle.reg_routes.specs.declared.route.Route.{Route}
use Rattle.reg_routes.specs.declared.route.Route.TheVariants as routes
use Rattle.reg_connection.specs.TurnKinds.{kind_of, kind_on}

get_takes_none-on : (route : Route) → kind_on (codes "GET") route ≡ None
get_takes_none-on routes.SchemaById = refl
get_takes_none-on routes.IdVersions = refl
get_takes_none-on routes.Subjects = refl
get_takes_none-on routes.Subject = refl
get_takes_none-on routes.Versions = refl
get_takes_none-on routes.Version = refl
get_takes_none-on routes.VersionSchema = refl
get_takes_none-on routes.CheckAll = refl
get_takes_none-on routes.CheckOne = refl
get_takes_none-on routes.Level = refl
get_takes_none-on routes.SubjectLevel = refl
get_takes_none-on routes.Mode = refl
get_takes_none-on routes.SubjectMode = refl

pub get_takes_none : (target : List ℕ) → kind_of (codes "GET") target ≡ None
get_takes_none target = by_path (is_path target) (route_of (path_of target))
  where
    by_path : (b : Bool) (o : Option Route) → (if b then option_and_then (kind_on (codes "GET")) o else None) ≡ None
    by_path false o = refl
    by_path true None = refl
    by_path true (Some route) = get_takes_none-on route
