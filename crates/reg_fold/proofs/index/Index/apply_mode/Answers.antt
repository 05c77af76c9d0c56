use Rattle.std.proofs.Common.{ap, subst, sym, ◌∙◌}
use Rattle.reg_fold.specs.Opaque.{is_version}
use Rattle.reg_fold.specs.Scopes.{HasOwn}
use Rattle.reg_fold.proofs.Keeping.{IsKept-other}
use Rattle.reg_fold.proofs.Owned.{is_config, is_id_mark, levels-stay, mark-stays, modes-change}
use Rattle.reg_values.specs.reg_records.Key.{is_delete}
use Rattle.reg_fold.proofs.SoftDeletes.{deletes-stay}
use Rattle.reg_fold.proofs.index.Index.apply_mode.Goals as goal

pub returns : goal.returns
returns c =
    let old = c.args.self.now in
    let kept = c.requires.news.kept in
    let after = c.put_own.new.lasts in
    let r = c.args.given.now in
    let put = c.in_ok-put_own.ensures in
    let has = subst (HasOwn old.modes c.put_own.new.owns c.args.scope.now) c.in_ok-name.ensures put.set in
    record {
      kept = IsKept-other old kept after r put.step (ap is_version c.requires.of_key)
          _ (deletes-stay old.last after r put.step old.deletes kept.all_deletes (ap is_delete c.requires.of_key))
          _ (levels-stay old.last after r put.step old.levels kept.all_levels (ap is_config c.requires.of_key))
          _ (modes-change old.last after r put.step old.modes kept.all_modes c.args.scope.now c.requires.of_key c.put_own.new.owns has)
          _ (kept.the_mark ∙ sym (mark-stays old.last after r put.step (ap is_id_mark c.requires.of_key)));
      added = put.added;
      refused = tt;
    }
