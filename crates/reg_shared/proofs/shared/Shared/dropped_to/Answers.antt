use Rattle.std.proofs.Common.{◌≡◌, true, ◌&&◌, ◌++◌, not, nat_lt, List, sym, ap, subst, ◌∙◌}
use Rattle.std.specs.FinSet.{contains}
use Rattle.std.specs.List.{filter}
use Rattle.reg_records.specs.declared.record.Record.{Record}
use Rattle.reg_set.specs.Compaction.{deletes_below}
use Rattle.reg_set.specs.Records.{Records}
use Rattle.reg_floored.specs.Floors.{compacted_to, may_leave, without}
use Rattle.reg_shared.specs.Held.{Held}
use Rattle.reg_shared.specs.Kept.{IsRising, kept_of}
use Rattle.reg_shared.proofs.Leaving.{dropped_are}
use Rattle.reg_shared.proofs.Rising.{below_twice, rising_in_order}
use Rattle.reg_shared.proofs.shared.Shared.dropped_to.Goals as goal

pub until-below-requires : goal.until-below-requires
until-below-requires c =
    let xs : List Record = c.self.inside.by_offset.items in
    subst IsRising (sym c.deref-2.ensures.value) (rising_in_order xs c.self.invariant.in_order)

pub returns-clause-may_go : goal.returns-clause-may_go
returns-clause-may_go c =
    let o = c.records_are_ordered.ensures in
    let lasts : Records = c.self.inside.registry in
    let older : List Record = c.self.inside.older.items in
    let xs : List Record = c.self.inside.by_offset.items in
    let floor = c.args.floor in
    let found : List Record = c.append.new.self.items in
    let first : c.in_ok-found.found.items ≡ filter (λ r. not (contains lasts r)) older =
    c.in_ok-found.ensures ∙ ap (filter (λ r. not (contains lasts r))) c.deref.ensures.value in
    let second : c.in_ok-deletes.deletes.items ≡ filter (λ r. deletes_below floor r && contains lasts r) xs =
    c.in_ok-deletes.ensures
    ∙ ap (filter (λ r. deletes_below floor r && contains lasts r))
    (c.until-below.ensures ∙ ap (filter (λ r. nat_lt r.offset floor)) c.deref-2.ensures.value)
    ∙ below_twice floor (contains lasts) xs in
    let added : found ≡ c.in_ok-found.found.items ++ c.in_ok-deletes.deletes.items = c.in_ok-append.ensures.items in
    let is : found ≡ filter (λ r. not (contains lasts r)) older ++ filter (λ r. deletes_below floor r && contains lasts r) xs =
    added ∙ (λ i. first i ++ second i) in
    let laws = c.compacting_drops_what_may_leave.ensures floor (kept_of lasts older) found
    (dropped_are o.all o.apart lasts older xs found floor c.self.invariant.of_kept c.self.invariant.among is) in
    subst (λ (h : Held). may_leave floor h.kept.records found ≡ true) c.self.view_is laws.0

pub returns-clause-rest : goal.returns-clause-rest
returns-clause-rest c =
    let o = c.records_are_ordered.ensures in
    let lasts : Records = c.self.inside.registry in
    let older : List Record = c.self.inside.older.items in
    let xs : List Record = c.self.inside.by_offset.items in
    let floor = c.args.floor in
    let found : List Record = c.append.new.self.items in
    let first : c.in_ok-found.found.items ≡ filter (λ r. not (contains lasts r)) older =
    c.in_ok-found.ensures ∙ ap (filter (λ r. not (contains lasts r))) c.deref.ensures.value in
    let second : c.in_ok-deletes.deletes.items ≡ filter (λ r. deletes_below floor r && contains lasts r) xs =
    c.in_ok-deletes.ensures
    ∙ ap (filter (λ r. deletes_below floor r && contains lasts r))
    (c.until-below.ensures ∙ ap (filter (λ r. nat_lt r.offset floor)) c.deref-2.ensures.value)
    ∙ below_twice floor (contains lasts) xs in
    let added : found ≡ c.in_ok-found.found.items ++ c.in_ok-deletes.deletes.items = c.in_ok-append.ensures.items in
    let is : found ≡ filter (λ r. not (contains lasts r)) older ++ filter (λ r. deletes_below floor r && contains lasts r) xs =
    added ∙ (λ i. first i ++ second i) in
    let laws = c.compacting_drops_what_may_leave.ensures floor (kept_of lasts older) found
    (dropped_are o.all o.apart lasts older xs found floor c.self.invariant.of_kept c.self.invariant.among is) in
    subst (λ (h : Held). without h.kept.records found ≡ compacted_to floor h.kept.records) c.self.view_is laws.1
