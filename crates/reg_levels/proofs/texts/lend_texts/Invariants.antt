use Rattle.std.proofs.Common.{◌≡◌, take, map}
use Rattle.reg_levels.specs.Texts.{VersionText}
use Rattle.reg_levels.proofs.texts.lend_texts.Given as goal

abbrev pub invariant-loop-old : goal.invariant-loop-old
invariant-loop-old l = record {
  all_texts : map {B = VersionText} (λ old. (old.0, old.1.now)) l.lent.items ≡ take l.old-index l.olds;
  all_versions : map (λ old. old.0) l.lent.items ≡ map {A = VersionText} (λ old. old.0) (take l.old-index l.olds);
}
