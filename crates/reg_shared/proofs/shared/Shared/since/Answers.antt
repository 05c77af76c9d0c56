use Rattle.std.proofs.Common.{◌≡◌, ◌<◌, ◌||◌, List, sym, ap, subst, ◌∙◌}
use Rattle.std.specs.Bool.{nat_le}
use Rattle.std.specs.FinSet.{contains, from_list}
use Rattle.std.specs.List.{AllByRecursion, filter}
use Rattle.reg_records.specs.declared.record.Record.{Record}
use Rattle.reg_set.specs.RecordOrder.{record_cmp}
use Rattle.reg_set.specs.Records.{Records, is_in_order}
use Rattle.reg_shared.specs.Held.{Held, IsSince}
use Rattle.reg_shared.specs.Kept.{IsRising}
use Rattle.reg_shared.proofs.Keeping.{is_kept, since_is}
use Rattle.reg_shared.proofs.Rising.{all_filter, in_order_filter, rising_in_order}
use Rattle.reg_shared.proofs.shared.Shared.since.Goals as goal

pub copy_since-requires-clause-rising : goal.copy_since-requires-clause-rising
copy_since-requires-clause-rising c =
    let xs : List Record = c.self.inside.by_offset.items in
    subst IsRising (sym c.deref-2.ensures.value) (rising_in_order xs c.self.invariant.in_order)

pub copy_since-requires-clause-all_kept : goal.copy_since-requires-clause-all_kept
copy_since-requires-clause-all_kept c = λ none r h.
    let o = c.records_are_ordered.ensures in
    let lasts : Records = c.self.inside.registry in
    let older : List Record = c.self.inside.older.items in
    ap (λ (l : List Record). contains lasts r || contains (from_list {R = record_cmp} l) r) c.deref.ensures.value
    ∙ sym (is_kept o.all o.apart lasts older r)
    ∙ c.self.invariant.all_kept none r (ap (λ (l : List Record). contains (from_list {R = record_cmp} l) r) (sym c.deref-2.ensures.value) ∙ h)

pub returns-clause-all : goal.returns-clause-all
returns-clause-all c =
    let o = c.records_are_ordered.ensures in
    let lasts : Records = c.self.inside.registry in
    let older : List Record = c.self.inside.older.items in
    let xs : List Record = c.self.inside.by_offset.items in
    let is : c.in_ok-found.found.items
    ≡ filter (λ r. contains lasts r || contains (from_list {R = record_cmp} older) r) (filter (λ q. nat_le c.args.from q.offset) xs) =
    c.in_ok-found.ensures
    ∙ (λ i. filter (λ r. contains lasts r || contains (from_list {R = record_cmp} (c.deref.ensures.value i)) r)
    (filter (λ q. nat_le c.args.from q.offset) (c.deref-2.ensures.value i))) in
    subst (λ (h : Held). IsSince h.kept.records c.args.from c.in_ok-found.found.items) c.self.view_is
    (since_is o.all o.apart lasts older xs c.in_ok-found.found.items c.args.from c.self.invariant.among is)

pub returns-clause-in_order : goal.returns-clause-in_order
returns-clause-in_order c =
    let lasts : Records = c.self.inside.registry in
    let older : List Record = c.self.inside.older.items in
    let xs : List Record = c.self.inside.by_offset.items in
    let is : c.in_ok-found.found.items
    ≡ filter (λ r. contains lasts r || contains (from_list {R = record_cmp} older) r) (filter (λ q. nat_le c.args.from q.offset) xs) =
    c.in_ok-found.ensures
    ∙ (λ i. filter (λ r. contains lasts r || contains (from_list {R = record_cmp} (c.deref.ensures.value i)) r)
    (filter (λ q. nat_le c.args.from q.offset) (c.deref-2.ensures.value i))) in
    ap is_in_order is
    ∙ in_order_filter (λ r. contains lasts r || contains (from_list {R = record_cmp} older) r) (filter (λ q. nat_le c.args.from q.offset) xs)
    (in_order_filter (λ q. nat_le c.args.from q.offset) xs c.self.invariant.in_order)

pub returns-clause-below : goal.returns-clause-below
returns-clause-below c =
    let lasts : Records = c.self.inside.registry in
    let older : List Record = c.self.inside.older.items in
    let xs : List Record = c.self.inside.by_offset.items in
    let is : c.in_ok-found.found.items
    ≡ filter (λ r. contains lasts r || contains (from_list {R = record_cmp} older) r) (filter (λ q. nat_le c.args.from q.offset) xs) =
    c.in_ok-found.ensures
    ∙ (λ i. filter (λ r. contains lasts r || contains (from_list {R = record_cmp} (c.deref.ensures.value i)) r)
    (filter (λ q. nat_le c.args.from q.offset) (c.deref-2.ensures.value i))) in
    let all = all_filter (λ r. r.offset < c.self.inside.next)
    (λ r. contains lasts r || contains (from_list {R = record_cmp} older) r) (filter (λ q. nat_le c.args.from q.offset) xs)
    (all_filter (λ r. r.offset < c.self.inside.next) (λ q. nat_le c.args.from q.offset) xs c.self.invariant.below) in
    subst (λ (h : Held). AllByRecursion (λ r. r.offset < h.next) c.in_ok-found.found.items) c.self.view_is
    (subst (AllByRecursion (λ r. r.offset < c.self.inside.next)) (sym is) all)
