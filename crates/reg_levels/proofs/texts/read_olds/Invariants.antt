use Rattle.std.proofs.Common.{◌≡◌, take, drop, map}
use Rattle.reg_levels.specs.Texts.{VersionText, versions_in}
use Rattle.reg_levels.specs.Judgement.{first_unread}
use Rattle.reg_levels.proofs.texts.read_olds.Given as goal

-- the schemas so far, and that the rest decides
abbrev pub invariant-loop-old : goal.invariant-loop-old
invariant-loop-old l = record {
  versions : map (λ old. (old.0, old.1.nodes)) l.schemas.items ≡ versions_in (map (λ old. (old.0, old.1.now)) (take l.old-index l.olds));
  rest : first_unread (map (λ old. (old.0, old.1.now)) l.olds)
      ≡ first_unread (map {B = VersionText} (λ old. (old.0, old.1.now)) (drop l.old-index l.olds));
}
