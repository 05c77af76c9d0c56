use Rattle.std.proofs.Common.{◌≡◌, sym, subst}
use Rattle.reg_judge.specs.Judge.{without_text}
use Rattle.reg_judge.specs.Kept.{AreSchemas, IsSchemaOf, texts_in}
use Rattle.reg_judge.proofs.Keeping.{without}
use Rattle.reg_judge.proofs.TextsOut.{removed}
use Rattle.reg_judge.proofs.schemas.leave_out.Goals as goal

pub returns-clause-left : goal.returns-clause-left
returns-clause-left c =
    subst (λ cache. AreSchemas cache.entries) (sym c.pop_entry-gone.ensures.entries) (without IsSchemaOf _ c.args.kept.now.entries c.requires)

pub returns-clause-out : goal.returns-clause-out
returns-clause-out c =
    subst (λ cache. texts_in cache.entries ≡ without_text c.args.text.now (texts_in c.args.kept.now.entries))
    (sym c.pop_entry-gone.ensures.entries) (removed _ c.args.text.now c.args.kept.now.entries)
