use Rattle.std.proofs.Common.{◌≡◌, List, ℕ, ◌+◌, ◌<◌, [], ◌∷◌, true, map, fold, take, drop}
use Rattle.std.proofs.Common.{take_all, length, get_or, refl, ap, sym, subst, ◌∙◌, Bor}
use Rattle.std.specs.Prelude.{Bool, false, ◌&&◌}
use Rattle.std.proofs.lemmas.List.{drop_more, map_more}
use Rattle.std.proofs.lemmas.List.Sums.{fold-append}
use Rattle.matchit.specs.Router.{RouteOf}
use Rattle.matchit.specs.Rows.{RowsOf}
use Rattle.reg_routes.specs.Adding.{all_can_be_added, can_be_added}
use Rattle.reg_routes.specs.Router.{with_path}
use Rattle.reg_routes.specs.declared.route.Route.{Route}
use Rattle.reg_routes.proofs.paths.router_of.Goals as goal

abbrev path_of : Bor (List ℕ) × Route → List ℕ × Route
path_of path = (path.0.now, path.1)

-- one path more
with_next : (paths : List (Bor (List ℕ) × Route)) (i : ℕ) (d : Bor (List ℕ) × Route) → i < length paths
    → with_path (fold with_path [] (map path_of (take i paths))) (path_of (get_or paths i d))
    ≡ fold with_path [] (map path_of (take (i + 1) paths))
with_next paths i d lt =
    sym (fold-append with_path [] (map path_of (take i paths)) (path_of (get_or paths i d) ∷ []))
    ∙ ap (fold with_path []) (sym (map_more path_of paths i d lt))

both : (a b : Bool) → (a && b) ≡ true → (a ≡ true) × (b ≡ true)
both true true e = (refl, refl)
both true false e = absurd (cc)
both false b e = absurd (cc)

-- the next path can be added, and those after it then
next_can : (rows : RowsOf (RouteOf Route)) (paths : List (Bor (List ℕ) × Route)) (i : ℕ) (d : Bor (List ℕ) × Route) → i < length paths
    → all_can_be_added rows (map path_of (drop i paths)) ≡ true
    → (can_be_added rows (path_of (get_or paths i d)) ≡ true)
    × (all_can_be_added (with_path rows (path_of (get_or paths i d))) (map path_of (drop (i + 1) paths)) ≡ true)
next_can rows paths i d lt all =
    both _ _ (subst (λ ps. all_can_be_added rows (map path_of ps) ≡ true) (drop_more paths i d lt) all)

pub loop-path-init : goal.loop-path-init
loop-path-init c = (c.new-router.ensures, rw c.new-router.ensures c.requires)

pub add-requires : goal.add-requires
add-requires c = (next_can c.loop-path.router c.args.paths.now c.loop-path.path-index _ c.loop-path-test.true c.loop-path.invariant.1).0

pub loop-path-preserved : goal.loop-path-preserved
loop-path-preserved c = (
  rw (c.in_ok-add.ensures, c.loop-path.invariant.0) (with_next c.args.paths.now c.loop-path.path-index _ c.loop-path-test.true),
  rw c.in_ok-add.ensures (
      next_can c.loop-path.router c.args.paths.now c.loop-path.path-index _ c.loop-path-test.true c.loop-path.invariant.1).1,
)

pub returns : goal.returns
returns c =
    c.loop-path.invariant.0
    ∙ ap (λ paths. fold with_path [] (map path_of paths)) (take_all c.loop-path.path-index c.args.paths.now c.loop-path-test.false)
