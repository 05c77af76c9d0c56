use Rattle.std.proofs.Common.{rules, ◌≡◌, ◌||◌, ℕ, List, sym, subst, ◌∙◌}
use Rattle.std.specs.Bool.{nat_le}
use Rattle.std.specs.FinSet.{contains, from_list}
use Rattle.std.specs.List.{filter}
use Rattle.reg_records.specs.declared.record.Record.{Record}
use Rattle.reg_set.specs.RecordOrder.{record_cmp}
use Rattle.reg_shared.proofs.Keeping.{all_since}
use Rattle.reg_shared.proofs.kept.copy_since.Goals as goal

pub returns-then-dropped-eq0 : goal.returns-then-dropped-eq0
returns-then-dropped-eq0 c =
    let o = c.records_are_ordered.ensures in
    let xs : List Record = c.args.by_offset.now in
    let none : c.args.dropped ≡ 0 = search rules in
    let first : c.args.from ≡ 0 = search rules in
    c.in_ok-all.ensures
    ∙ subst (λ (n : ℕ). xs
    ≡ filter (λ r. contains c.args.registry.now r || contains (from_list {R = record_cmp} c.args.older.now) r)
    (filter (λ q. nat_le n q.offset) xs)) (sym first)
    (all_since o.all o.apart (λ r. contains c.args.registry.now r || contains (from_list {R = record_cmp} c.args.older.now) r) xs
    (c.requires.all_kept none))
