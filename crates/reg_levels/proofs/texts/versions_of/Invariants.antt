use Rattle.std.proofs.Common.{◌≡◌, take, map}
use Rattle.reg_levels.specs.RequiredPairs.{Version}
use Rattle.reg_levels.proofs.texts.versions_of.Given as goal

abbrev pub invariant-loop-old : goal.invariant-loop-old
invariant-loop-old l =
    map {B = Version} (λ old. (old.0, old.1.now.nodes)) l.versions.items
    ≡ map {B = Version} (λ old. (old.0, old.1.nodes)) (take l.old-index l.schemas)
