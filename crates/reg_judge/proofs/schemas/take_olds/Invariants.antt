use Rattle.std.proofs.Common.{◌≡◌, take, drop, map}
use Rattle.reg_levels.specs.Texts.{VersionText}
use Rattle.reg_levels.specs.Judgement.{first_unread}
use Rattle.reg_judge.specs.Judge.{without_texts}
use Rattle.reg_judge.specs.Kept.{AreSchemas, texts_in}
use Rattle.reg_judge.proofs.schemas.take_olds.Given as goal

-- the schemas so far, and that the rest decides
abbrev pub invariant-loop-old : goal.invariant-loop-old
invariant-loop-old l = record {
  left : AreSchemas l.kept.entries;
  capacity : l.kept.cap ≡ l.fn.kept.cap;
  out : texts_in l.kept.entries ≡ without_texts (map (λ old. old.1.now) (take l.old-index l.olds)) (texts_in l.fn.kept.entries);
  texts : l.taken.items ≡ map (λ old. (old.0, old.1.now)) (take l.old-index l.olds);
  rest : first_unread (map (λ old. (old.0, old.1.now)) l.olds)
      ≡ first_unread (map {B = VersionText} (λ old. (old.0, old.1.now)) (drop l.old-index l.olds));
}
