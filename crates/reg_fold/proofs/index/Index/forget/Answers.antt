use Rattle.std.proofs.Common.{sym, ◌∙◌}
use Rattle.reg_fold.specs.Opaque.{is_opaque}
use Rattle.reg_fold.proofs.Forgotten.{deletes-left, entries_given-left, levels-left, mark-left}
use Rattle.reg_fold.proofs.Forgotten.{modes-left, none_opaque, nothing, opaque-left}
use Rattle.reg_fold.proofs.Forgotten.{own-left, spots-left}
use Rattle.reg_fold.proofs.index.Index.forget.Goals as goal

pub returns-clause-kept : goal.returns-clause-kept
returns-clause-kept c =
    let kept = c.requires.kept in
    let before = c.args.self.now.last in
    let after = c.remove.new.self in
    let r = c.args.given.now in
    let no_value = nothing r.value c.requires.no_value in
    let loses = c.remove.ensures.lasts in
    record {
      of_lasts = c.entries_are_of_lasts-2.ensures;
      all_entries = own-left r no_value before after loses c.args.self.now.entries kept.all_entries;
      all_unread = spots-left r no_value before after loses is_opaque (none_opaque r no_value) c.args.self.now.unread kept.all_unread;
      all_deletes = λ scope. kept.all_deletes scope ∙ sym (deletes-left r no_value before after loses scope);
      all_levels = λ scope. kept.all_levels scope ∙ sym (levels-left r no_value before after loses scope);
      all_modes = λ scope. kept.all_modes scope ∙ sym (modes-left r no_value before after loses scope);
      the_mark = kept.the_mark ∙ sym (mark-left r no_value before after loses);
    }

pub returns-clause-alike : goal.returns-clause-alike
returns-clause-alike c =
    let before = c.args.self.now.last in
    let after = c.remove.new.self in
    let r = c.args.given.now in
    let no_value = nothing r.value c.requires.no_value in
    let loses = c.remove.ensures.lasts in
    let order = c.records_are_ordered.ensures in
    record {
      entries_alike = entries_given-left r no_value before after loses c.entries_are_of_lasts.ensures c.entries_are_of_lasts-2.ensures;
      opaque_alike = opaque-left r no_value before after loses order.all order.apart
          c.last_is_greatest.ensures.greatest c.is_compact.ensures c.is_compact-2.ensures c.remove.ensures.removed;
      levels_alike = λ scope. sym (levels-left r no_value before after loses scope);
      modes_alike = λ scope. sym (modes-left r no_value before after loses scope);
      marks_alike = sym (mark-left r no_value before after loses);
    }
