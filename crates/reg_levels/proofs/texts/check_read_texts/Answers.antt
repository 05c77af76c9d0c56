use Rattle.std.proofs.Common.{◌≡◌, None, map, sym, subst}
use Rattle.std.proofs.lemmas.Result.{IfOk-weaker}
use Rattle.reg_levels.specs.Judgement.{first_unread}
use Rattle.reg_levels.proofs.LookedAt.{looked_at-are_read, looked_at-decide}
use Rattle.reg_levels.proofs.texts.check_read_texts.Goals as goal

pub check_each_text-requires : goal.check_each_text-requires
check_each_text-requires c =
    subst (λ olds. first_unread (map (λ old. (old.0, old.1.now)) olds) ≡ None) (sym c.looked_at.ensures)
    (looked_at-are_read (λ text. text.now) c.args.level c.args.olds.now c.requires.read)

pub returns : goal.returns
returns c =
    IfOk-weaker c.check_each_text.result _ _ (λ v is.
    looked_at-decide (λ text. text.now) c.args.level c.args.olds.now c.args.new.now.nodes v c.looked_at.result.now c.looked_at.ensures is)
    c.check_each_text.ensures
