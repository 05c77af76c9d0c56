use Rattle.std.proofs.Common.{subst, sym, ap, ◌∙◌}
use Rattle.reg_set.specs.Compaction.{KeepsLasts}
use Rattle.reg_set.specs.LastRecords.{last, last_records}
use Rattle.reg_set.specs.Records.{Records}
use Rattle.reg_set.proofs.KeptLasts.{last_of_last_records, last_records_keep_lasts}
use Rattle.reg_set.proofs.Listed.{AreByKey-lasts, set_of-lasts}
use Rattle.reg_set.proofs.record_set.RecordSet.compact.Goals as goal

pub invariant_of-self : goal.invariant_of-self
invariant_of-self c =
    AreByKey-lasts c.self.inside.by_key c.leave_lasts.new.by_key c.self.invariant c.leave_lasts.ensures.in_order c.leave_lasts.ensures.left

pub returns-clause-left : goal.returns-clause-left
returns-clause-left c =
    set_of-lasts c.self.inside.by_key c.leave_lasts.new.by_key c.self.invariant c.leave_lasts.ensures.in_order c.leave_lasts.ensures.left
    ∙ ap last_records c.self.view_is

pub returns-clause-lasts : goal.returns-clause-lasts
returns-clause-lasts c = λ key. ap (λ s. last s key) (returns-clause-left c) ∙ last_of_last_records c.args.self.now key

pub returns-clause-kept : goal.returns-clause-kept
returns-clause-kept c =
    let P : Records → Type 0 = λ s. KeepsLasts s c.args.self.now in
    subst P (sym (returns-clause-left c)) (last_records_keep_lasts c.args.self.now)
