use Rattle.std.proofs.Common.{ap, ℕ, List, Some, subst, sym, ◌∙◌}
use Rattle.reg_fold.specs.Opaque.{is_version}
use Rattle.reg_fold.specs.Scopes.{HasOwn}
use Rattle.reg_fold.specs.SoftDeletes.{delete_of}
use Rattle.reg_fold.proofs.Keeping.{IsKept-other}
use Rattle.reg_fold.proofs.Owned.{is_config, is_id_mark, is_mode, levels-stay, mark-stays, modes-stay}
use Rattle.reg_fold.proofs.SoftDeletes.{deletes-change}
use Rattle.reg_fold.proofs.index.Index.apply_delete.Goals as goal

pub returns : goal.returns
returns c =
    let old = c.args.self.now in
    let kept = c.requires.news.kept in
    let after = c.put_own.new.lasts in
    let r = c.args.given.now in
    let put = c.in_ok-put_own.ensures in
    let has = subst (λ (s : List ℕ). HasOwn old.deletes c.put_own.new.owns (Some s) (delete_of r)) c.in_ok-clone.ensures.cases
    (subst (HasOwn old.deletes c.put_own.new.owns (Some c.in_ok-clone.field-0)) c.in_ok-delete.ensures put.set) in
    record {
      kept = IsKept-other old kept after r put.step (ap is_version c.requires.of_key)
          _ (
          deletes-change old.last after r put.step old.deletes kept.all_deletes
          c.args.subject.now c.requires.of_key c.put_own.new.owns has)
          _ (levels-stay old.last after r put.step old.levels kept.all_levels (ap is_config c.requires.of_key))
          _ (modes-stay old.last after r put.step old.modes kept.all_modes (ap is_mode c.requires.of_key))
          _ (kept.the_mark ∙ sym (mark-stays old.last after r put.step (ap is_id_mark c.requires.of_key)));
      added = put.added;
      refused = tt;
    }
