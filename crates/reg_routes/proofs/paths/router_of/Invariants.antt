use Rattle.std.proofs.Common.{◌≡◌, ℕ, List, [], true, fold, map, take, drop, Bor}
use Rattle.reg_routes.specs.Adding.{all_can_be_added}
use Rattle.reg_routes.specs.Router.{with_path}
use Rattle.reg_routes.specs.declared.route.Route.{Route}
use Rattle.reg_routes.proofs.paths.router_of.Given as goal

-- the paths so far are added, and the others can be
abbrev pub invariant-loop-path : goal.invariant-loop-path
invariant-loop-path l =
    (l.router ≡ fold with_path [] (map (λ path. (path.0.now, path.1)) (take l.path-index l.paths)))
    × (all_can_be_added l.router (map (λ (path : Bor (List ℕ) × Route). (path.0.now, path.1)) (drop l.path-index l.paths)) ≡ true)
