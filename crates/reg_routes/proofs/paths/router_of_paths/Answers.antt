use Rattle.std.proofs.Common.{refl}
use Rattle.matchit.proofs.OnLiterals.{matchit_on_literals}
use Rattle.reg_routes.proofs.paths.router_of_paths.Goals as goal

pub router_of-requires : goal.router_of-requires
unfolding matchit_on_literals
router_of-requires c = refl
