use Rattle.std.proofs.Common.{ap, sym, unwrap_or, ◌∙◌}
use Rattle.reg_fold.specs.Opaque.{is_version}
use Rattle.reg_fold.proofs.Keeping.{IsKept-other}
use Rattle.reg_fold.proofs.Owned.{is_config, is_mode, levels-stay, mark-changes, modes-stay}
use Rattle.reg_values.specs.reg_records.Key.{is_delete}
use Rattle.reg_fold.proofs.SoftDeletes.{deletes-stay}
use Rattle.reg_fold.proofs.index.Index.apply_id_mark.Goals as goal

pub returns : goal.returns
returns c =
    let old = c.args.self.now in
    let kept = c.requires.news.kept in
    let after = c.put_last.new.lasts in
    let r = c.args.given.now in
    let step = c.in_ok-put_last.ensures.step in
    record {
      kept = IsKept-other old kept after r step (ap is_version c.requires.of_key)
          _ (deletes-stay old.last after r step old.deletes kept.all_deletes (ap is_delete c.requires.of_key))
          _ (levels-stay old.last after r step old.levels kept.all_levels (ap is_config c.requires.of_key))
          _ (modes-stay old.last after r step old.modes kept.all_modes (ap is_mode c.requires.of_key))
          _ (
          c.unwrap_or-self.ensures
          ∙ ap (λ o. unwrap_or o 0) c.in_ok-marked.ensures
          ∙ sym (mark-changes old.last after r step c.requires.of_key));
      added = c.in_ok-put_last.ensures.added;
      refused = tt;
    }
