use Rattle.std.proofs.Common.{◌≡◌, ◌&&◌, ◌||◌, List, ap, subst, ◌∙◌}
use Rattle.std.specs.Bool.{nat_lt}
use Rattle.std.specs.FinSet.{contains, from_list}
use Rattle.std.specs.List.{filter}
use Rattle.reg_records.specs.declared.record.Record.{Record}
use Rattle.reg_set.specs.RecordOrder.{record_cmp}
use Rattle.reg_set.specs.Records.{Records}
use Rattle.reg_shared.specs.Held.{Held, IsBelow}
use Rattle.reg_shared.proofs.Keeping.{below_is}
use Rattle.reg_shared.proofs.shared.Shared.below.Goals as goal

pub returns : goal.returns
returns c =
    let o = c.records_are_ordered.ensures in
    let lasts : Records = c.self.inside.registry in
    let older : List Record = c.self.inside.older.items in
    let xs : List Record = c.self.inside.by_offset.items in
    let upto = c.args.upto in
    let is : c.in_ok-found.found.items
    ≡ filter (λ r. nat_lt r.offset upto && (contains lasts r || contains (from_list {R = record_cmp} older) r)) xs =
    c.in_ok-found.ensures
    ∙ (
    ap (λ (l : List Record).
    filter (λ r. nat_lt r.offset upto && (contains lasts r || contains (from_list {R = record_cmp} l) r))
    c.deref-2.result.now) c.deref.ensures.value
    ∙ ap (
    filter (λ r. nat_lt r.offset upto && (contains lasts r || contains (from_list {R = record_cmp} older) r))) c.deref-2.ensures.value)
    in
    subst (λ (h : Held). IsBelow h.kept.records upto c.in_ok-found.found.items) c.self.view_is
    (below_is o.all o.apart lasts older xs c.in_ok-found.found.items upto c.self.invariant.among is)
